-- The declared types of this crate and their variants, each by its one name: what definitions and proofs bring in. A
-- variant whose name two types share (Own, Backup, Format, Change, Note) is brought in from its type.
pub use Rattle.model.specs.declared.answer.{Answer.Answer, Class.Class, Repair.Repair, Reply.Reply}
pub use Rattle.model.specs.declared.answer.{Start.Start, Stop.Stop}
pub use Rattle.model.specs.declared.answer.Answer.TheVariants.{Done, Nothing, Refused, Repaired}
pub use Rattle.model.specs.declared.answer.Class.TheVariants.{Good, Behind, Stale, Failed, Ahead}
pub use Rattle.model.specs.declared.answer.Stop.TheVariants.{Below, Broken}
pub use Rattle.model.specs.declared.change.Change.{Change, TheVariants.Put, TheVariants.Slide}
pub use Rattle.model.specs.declared.command.Command.{Command}
pub use Rattle.model.specs.declared.command.Command.TheVariants.{Begin, Load, Force, Write, Release}
pub use Rattle.model.specs.declared.command.Command.TheVariants.{StartCarry, Restamp, FinishCarry}
pub use Rattle.model.specs.declared.geometry.{Geometry.Geometry, Heading.Heading}
pub use Rattle.model.specs.declared.geometry.Heading.TheVariants.{First, Second}
pub use Rattle.model.specs.declared.item.{LogRecord.LogRecord, Note.Note}
pub use Rattle.model.specs.declared.state.{Entry.Entry, Frame.Frame, State.State}
pub use Rattle.std.specs.Prelude.{Option, None, Some}

-- the note that a Write or a Backup left to be stored, if any
abbrev pub PendingNote : Type 0
PendingNote = Option Note
