-- `heading::known` compares the first bytes with each of the three headings.
use Rattle.volume.proofs.heading.known.Goals as goal

pub returns : goal.returns
returns c = rw (c.headed-3.ensures, c.headed-2.ensures, c.headed.ensures)
