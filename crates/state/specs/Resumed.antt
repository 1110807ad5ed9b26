-- The state that a scan gives, with no frame in use.
use Rattle.std.specs.Prelude.{replicate}
use Rattle.model.specs.State.{empty_frame}
use Rattle.model.specs.declared.{state.State.State}
use Rattle.index.specs.declared.Scanned.{Scanned}
use Rattle.model.specs.Types.{None}

abbrev pub resumed_state : Scanned → State
resumed_state x = record {
  durable = x.durable;
  pending = 0;
  notes = x.notes;
  note = None;
  frames = replicate 16 empty_frame;
  index = x.index;
}
