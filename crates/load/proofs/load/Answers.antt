-- `load::load` is its definition: the laws of Outcomes.antt say what each case is.
use mathlib.Core.Path.{◌≡◌, refl, sym}
use mathlib.Core.Bool.{not}
use borrow.Author.Rules.{rules}
use Rattle.model.specs.Effects.{is_good}
use Rattle.model.specs.Outcome.{reply_of}
use Rattle.model.specs.Calls.{load_of}
use Rattle.model.specs.declared.answer.Reply.{Reply}
use Rattle.model.specs.declared.answer.Answer.TheVariants.{Repaired}
use Rattle.laws.proofs.Refused.{refusal-some}
use Rattle.load.proofs.Rows.{early-none}
use Rattle.load.proofs.Outcomes.{Open, opened, refused, done}
use Rattle.load.proofs.load.Goals.{In-Ok, After-loaded}
use Rattle.load.proofs.load.Goals as goal

-- past the rows before the walk
past : (c : In-Ok) → Open c.args.volume.now c.args.memory.now c.args.s c.args.page c.args.frame
past c =
    let a = c.args in
    opened a.volume.now a.memory.now a.s a.page a.frame
    (early-none a.volume.now a.memory.now a.s a.page a.frame (sym (c.in-Ok.ensures.refusal a.memory.now refl)))

pub returns-in-Err-clause-reply : goal.returns-in-Err-clause-reply
returns-in-Err-clause-reply c =
    (refused _ _ _ _ _ _ _ c.from.ensures (c.in-Err.ensures.refusal c.args.memory.now refl) (refusal-some _)).0

pub returns-in-Err-clause-memory : goal.returns-in-Err-clause-memory
returns-in-Err-clause-memory c =
    (refused _ _ _ _ _ _ _ c.from.ensures (c.in-Err.ensures.refusal c.args.memory.now refl) (refusal-some _)).1

pub restore-repair-requires : goal.restore-repair-requires
restore-repair-requires c =
    (c.in-Ok.ensures.found.walked, (past (goal.at.restore-repair-requires c).In-Ok).room)

pub loaded-requires : goal.loaded-requires
loaded-requires c =
    let o = past (goal.at.loaded-requires c).In-Ok in
    (o.page-high, o.frame-low, o.frame-high)

-- what the call leaves
left : (c : After-loaded) → ◌≡◌ {A = Reply} (record { answer = Repaired c.restore-repair.result; state = c.loaded.result })
    (reply_of (load_of c.args.volume.now c.args.memory.now c.args.s c.args.page c.args.frame))
    × (c.restore-repair.new.memory ≡ (load_of c.args.volume.now c.args.memory.now c.args.s c.args.page c.args.frame).memory)
left c =
    let dirty : c.ne-dirty.result ≡ not (is_good c.restore-repair.result.class) = search rules in
    done _ _ _ _ _ _ _ c.in-Ok.ensures.found (c.in-Ok.ensures.refusal c.args.memory.now refl) _ _ _ _
    c.restore-repair.ensures.answer c.restore-repair.ensures.memory dirty c.loaded.ensures

pub returns-clause-reply : goal.returns-clause-reply
returns-clause-reply c = (left (goal.at.returns-clause-reply c).After-loaded).0

pub returns-clause-memory : goal.returns-clause-memory
returns-clause-memory c = (left (goal.at.returns-clause-memory c).After-loaded).1
