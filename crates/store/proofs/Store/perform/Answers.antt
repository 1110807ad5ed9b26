-- `store::Store::perform` meets its contract: the call that the command names says what it does, and what it does not
-- touch is left.
use mathlib.Core.Path.{◌∙◌}
use Rattle.store.proofs.Steps.{begin-volume, load-volume, change-volume, release-volume, release-memory, force-memory}
use Rattle.store.proofs.Steps.{write-memory, backup-memory, note-memory, start-carry-memory, restamp-memory, finish-carry-memory}
use Rattle.store.proofs.Store.perform.Goals.{in-Begin, in-Load, in-Change, in-Force, in-Write, in-Backup}
use Rattle.store.proofs.Store.perform.Goals.{in-Release, in-Note, in-StartCarry, in-Restamp, in-FinishCarry}
use Rattle.store.proofs.Store.perform.Goals as goal

pub returns-clause-memory : goal.returns-clause-memory
returns-clause-memory c =
    elim c.match-command.branch [
      | in-Begin w ↦ rw w.in-Begin.is (w.memory-is ∙ w.begin-reply.ensures.memory)
      | in-Load w ↦ rw w.in-Load.is (w.memory-is ∙ w.load-reply.ensures.memory)
      | in-Change w ↦ rw w.in-Change.is (w.memory-is ∙ w.change-reply.ensures.memory)
      | in-Force w ↦ rw w.in-Force.is (w.memory-is ∙ force-memory _ _ _)
      | in-Write w ↦ rw w.in-Write.is (w.memory-is ∙ write-memory _ _ _ _)
      | in-Backup w ↦ rw w.in-Backup.is (w.memory-is ∙ backup-memory _ _ _ _ _)
      | in-Release w ↦ rw w.in-Release.is (w.memory-is ∙ release-memory _ _ _ _)
      | in-Note w ↦ rw w.in-Note.is (w.memory-is ∙ note-memory _ _ _)
      | in-StartCarry w ↦ rw w.in-StartCarry.is (w.memory-is ∙ start-carry-memory _ _ _)
      | in-Restamp w ↦ rw w.in-Restamp.is (w.memory-is ∙ restamp-memory _ _ _)
      | in-FinishCarry w ↦ rw w.in-FinishCarry.is (w.memory-is ∙ finish-carry-memory _ _ _)
    ]

pub returns-clause-volume : goal.returns-clause-volume
returns-clause-volume c =
    elim c.match-command.branch [
      | in-Begin w ↦ rw w.in-Begin.is (w.volume-is ∙ begin-volume _ _ _ _ _ _)
      | in-Load w ↦ rw w.in-Load.is (w.volume-is ∙ load-volume _ _ _ _ _)
      | in-Change w ↦ rw w.in-Change.is (w.volume-is ∙ change-volume _ _ _ _ _ _)
      | in-Force w ↦ rw w.in-Force.is (w.volume-is ∙ w.force-reply.ensures.volume)
      | in-Write w ↦ rw w.in-Write.is (w.volume-is ∙ w.write-reply.ensures.volume)
      | in-Backup w ↦ rw w.in-Backup.is (w.volume-is ∙ w.backup-reply.ensures.volume)
      | in-Release w ↦ rw w.in-Release.is (w.volume-is ∙ release-volume _ _ _ _)
      | in-Note w ↦ rw w.in-Note.is (w.volume-is ∙ w.note-reply.ensures.volume)
      | in-StartCarry w ↦ rw w.in-StartCarry.is (w.volume-is ∙ w.start-reply.ensures.volume)
      | in-Restamp w ↦ rw w.in-Restamp.is (w.volume-is ∙ w.restamp-reply.ensures.volume)
      | in-FinishCarry w ↦ rw w.in-FinishCarry.is (w.volume-is ∙ w.finish-reply.ensures.volume)
    ]
