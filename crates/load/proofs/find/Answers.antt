-- `load::find`: the rows before the walk, then the walk's.
use mathlib.Core.Path.{◌≡◌, refl, sym, ap, ◌∙◌}
use mathlib.Core.List.{List}
use Prim.Native.Nat.{ℕ}
use lib.ListN.{length, length-replicate, replicate}
use Rattle.std.proofs.lemmas.Result.{err_from_is_err_and}
use Rattle.state.proofs.Slots.{valid-volume}
use Rattle.model.specs.Tables.{first_of}
use Rattle.model.specs.Refusals.{walk_tail, load_rows}
use Rattle.model.specs.declared.answer.Stop.{Stop}
use Rattle.laws.proofs.Refused.{refusal-some}
use Rattle.load.proofs.Rows.{early_rows, early-first, early-rows, early-refuses, walk-clean}
use Rattle.load.proofs.Outcomes.{opened, target-ready, decides}
use Rattle.load.proofs.find.Goals.{In_ok-own, After-walk-walked}
use Rattle.load.proofs.find.Goals as goal

pub returns-in_err-checked-clause-refusal : goal.returns-in_err-checked-clause-refusal
returns-in_err-checked-clause-refusal c =
    let p = err_from_is_err_and c.from_residual.result c.from_residual.ensures.1 in
    let r = c.in_err-checked.field-0.0 in
    λ m e. rw (p.1, p.2)
    (early-refuses _ m _ _ _ _ (early-first _ m _ _ (rw c.in_err-checked.was at (c.requires m e)) _ _ (refusal-some r)) (refusal-some r))

pub of-v-requires : goal.of-v-requires
of-v-requires c = valid-volume _ _ _ _ c.requires (rw c.in_ok-checked.was)

pub returns-in_err-own-clause-refusal : goal.returns-in_err-own-clause-refusal
returns-in_err-own-clause-refusal c =
    let p = err_from_is_err_and c.from_residual-in_err-own.result c.from_residual-in_err-own.ensures.1 in
    let r = c.in_err-own.field-0.0 in
    λ m e. rw (p.1, p.2)
    (early-refuses _ m _ _ _ _ (early-rows _ m _ _ (c.requires m e) _ _ _ _ _ _ (rw c.in_ok-checked.was)
    (rw c.of-v.ensures at c.of-v.result.read) c.frames.ensures c.in_err-own.ensures e) (refusal-some r))

-- past the rows before the walk
none : (c : In_ok-own) (m : List ℕ) → length m ≡ c.args.size → first_of (early_rows c.args.volume.now m c.args.s c.args.page c.args.frame) ≡ 0
none c m e =
    sym (early-rows _ m _ _ (c.requires m e) _ _ _ _ _ _ (rw c.in_ok-checked.was)
    (rw c.of-v.ensures at c.of-v.result.read) c.frames.ensures c.in_ok-own.ensures e)

pub invariant_of-t : goal.invariant_of-t
invariant_of-t c =
    let a = c.args in
    let m = replicate a.size 0 in
    let o = opened a.volume.now m a.s a.page a.frame (none (goal.at.invariant_of-t c).In_ok-own m (length-replicate a.size 0)) in
    let r = target-ready a.volume.now a.s a.page c.of-v.result c.first.result c.entry.result a.page c.of-v.ensures
    (rw (c.of.ensures.bytes, c.of.ensures.geometry, c.of-v.result.read, c.of-v.ensures) at c.first.ensures) c.entry.ensures refl o.ready in
    record { low = r.low; high = r.high; durable = r.durable; slot = r.slot }

-- the walk decides
walked : (c : After-walk-walked) (m : List ℕ) → first_of (early_rows c.args.volume.now m c.args.s c.args.page c.args.frame) ≡ 0
    → first_of (load_rows c.args.volume.now m c.args.s c.args.page c.args.frame) ≡ first_of (walk_tail c.walk-walked.result.stop)
walked c m e =
    let a = c.args in
    decides a.volume.now a.s a.page c.of-v.result c.first.result c.entry.result a.page c.of-v.ensures
    (rw (c.of.ensures.bytes, c.of.ensures.geometry, c.of-v.result.read, c.of-v.ensures) at c.first.ensures) c.entry.ensures refl _ c.walk-walked.ensures m a.frame e

pub returns-in-Broken-clause-refusal : goal.returns-in-Broken-clause-refusal
returns-in-Broken-clause-refusal c = λ m e.
    sym (walked (goal.at.returns-in-Broken-clause-refusal c).After-walk-walked m (none (goal.at.returns-in-Broken-clause-refusal c).In_ok-own m e) ∙ ap (λ (k : Stop). first_of (walk_tail k)) c.in-Broken.is)

pub returns-in-Below-clause-refusal : goal.returns-in-Below-clause-refusal
returns-in-Below-clause-refusal c = λ m e.
    sym (walked (goal.at.returns-in-Below-clause-refusal c).After-walk-walked m (none (goal.at.returns-in-Below-clause-refusal c).In_ok-own m e) ∙ ap (λ (k : Stop). first_of (walk_tail k)) c.in-Below.is)

pub returns-in_default : goal.returns-in_default
returns-in_default c =
    record {
      refusal = λ m e. sym (walked (goal.at.returns-in_default c).After-walk-walked m (none (goal.at.returns-in_default c).In_ok-own m e)
          ∙ walk-clean _ c.in_default.not-Broken c.in_default.not-Below);
      found = record {
        volume = c.of-v.ensures;
        first = rw (c.of.ensures.bytes, c.of.ensures.geometry, c.of-v.result.read, c.of-v.ensures) at c.first.ensures;
        entry = c.entry.ensures;
        number = refl;
        walked = c.walk-walked.ensures;
      };
    }
