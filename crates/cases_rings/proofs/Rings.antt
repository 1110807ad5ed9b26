-- The rows on the log and the notes as rings hold.
use mathlib.Core.List.{◌++◌}
use Rattle.cases.specs.Rows.{Hold}
use Rattle.cases.specs.All.{turned_rows}
use Rattle.cases.specs.Rings.{ring_rows, ring_events}
use Rattle.cases.specs.RingEdges.{ring_edges}
use Rattle.cases.proofs.Cases.{all, joined}

ring-cases : Hold ring_rows
unfolding ring_rows
ring-cases = all ring_rows tt

ring-events : Hold ring_events
unfolding ring_events
ring-events = all ring_events tt

ring-edges : Hold ring_edges
unfolding ring_edges
ring-edges = all ring_edges tt

pub turned-cases : Hold turned_rows
unfolding turned_rows
turned-cases = joined ring_rows (ring_events ++ ring_edges) ring-cases (joined ring_events ring_edges ring-events ring-edges)
