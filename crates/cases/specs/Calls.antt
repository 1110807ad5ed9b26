-- The calls of the cases, by short names: a command, and a change's payload beside it.
use Rattle.std.specs.Prelude.{ℕ, List}
use Rattle.model.specs.Calls.{Call, no_payload}
use Rattle.model.specs.declared.change.Change as changes
use Rattle.model.specs.declared.command.Command.TheVariants.{Begin, Load, Force, Write, Release, StartCarry, Restamp, FinishCarry}
use Rattle.model.specs.declared.command.Command.TheVariants.{Change, Backup, Note}

abbrev pub begin : ℕ → ℕ → ℕ → Call
begin page frame fill = (Begin page frame fill, no_payload)

abbrev pub load : ℕ → ℕ → Call
load page frame = (Load page frame, no_payload)

abbrev pub change : ℕ → changes.Change → List ℕ → Call
change page c payload = (Change page c, payload)

abbrev pub force : Call
force = (Force, no_payload)

abbrev pub write : ℕ → Call
write page = (Write page, no_payload)

abbrev pub backup : ℕ → ℕ → Call
backup page slot = (Backup page slot, no_payload)

abbrev pub release : ℕ → Call
release page = (Release page, no_payload)

abbrev pub note : Call
note = (Note, no_payload)

abbrev pub start_carry : Call
start_carry = (StartCarry, no_payload)

abbrev pub restamp : Call
restamp = (Restamp, no_payload)

abbrev pub finish_carry : Call
finish_carry = (FinishCarry, no_payload)
