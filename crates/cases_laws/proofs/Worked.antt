-- The worked histories: one law that turns a test, which the checker computes, into what it shows of each.
use mathlib.Core.Path.{◌≡◌, refl, sym, ap, ap₂, ◌∙◌}
use mathlib.Core.Bool.{false, cond, ◌&&◌}
use mathlib.Core.List.{List, [], ◌∷◌, ◌++◌}
use Prim.Native.Nat.{ℕ}
use lib.Dec.{T, eqb, eqb→eq}
use lib.ListN.{get_or, drop}
use Rattle.laws.proofs.Changes.{change-back}
use Rattle.model.specs.Change.{change_of}
use Rattle.model.specs.AbstractLog.{Logged, AbstractLog, empty_log}
use Rattle.model.specs.History.{Machine, Event, allowed, all_allowed, run, log_after}
use Rattle.model.specs.Claim.{fresh, reached, log_of}
use Rattle.model.specs.declared.change.Change.{Change}
use Rattle.cases.specs.Rows.{same}
use Rattle.cases.specs.Worked.{Worked, history_of, joined, makes, answers_of, event_step, tale_from, tale_of}
use Rattle.cases.specs.Worked.{says_answers, logged_numbers, same_changes, pages_of, all_replay, agrees, computes}
use Rattle.cases.specs.Worked.{all_compute, Computed, AllComputed}
use Rattle.cases.proofs.Cases.{left, right, equal}
use Rattle.cases.proofs.Tests.{holds}
use Rattle.cases_laws.proofs.Steps.{machine-step, log-step, answer-step}

-- ---- the one pass gives what `model`'s folds give

ok : (w : Machine) (b : AbstractLog) (es : List Event) → (tale_from w b es).ok ≡ all_allowed w es
unfolding all_allowed
ok w b [] = refl
ok w b (e ∷ es) =
    ap (λ r. cond (allowed w e) r false)
    (ok (event_step w b e).machine (event_step w b e).log es ∙ ap (λ x. all_allowed x es) (machine-step w b e))

answered : (w : Machine) (b : AbstractLog) (es : List Event) → (tale_from w b es).answers ≡ answers_of w es
answered w b [] = refl
answered w b (e ∷ es) =
    ap₂ ◌∷◌ (answer-step w b e)
    (answered (event_step w b e).machine (event_step w b e).log es ∙ ap (λ x. answers_of x es) (machine-step w b e))

machine : (w : Machine) (b : AbstractLog) (es : List Event) → (tale_from w b es).machine ≡ run w es
unfolding run
machine w b [] = refl
machine w b (e ∷ es) = machine (event_step w b e).machine (event_step w b e).log es ∙ ap (λ x. run x es) (machine-step w b e)

log : (w : Machine) (b : AbstractLog) (es : List Event) → (tale_from w b es).log ≡ log_after w b es
unfolding log_after
log w b [] = refl
log w b (e ∷ es) =
    log (event_step w b e).machine (event_step w b e).log es ∙ ap₂ (λ x c. log_after x c es) (machine-step w b e) (log-step w b e)

-- ---- a change is known by its numbers

abbrev from_numbers : List ℕ → Logged
from_numbers l = record { page = get_or l 0 0; change = change_of (get_or l 1 0) (get_or l 2 0) (get_or l 3 0) (get_or l 4 0); bytes = drop 5 l }

back : (c : Logged) → from_numbers (logged_numbers c) ≡ c
back c = ap (λ (d : Change). record { page = c.page; change = d; bytes = c.bytes }) (change-back c.change)

equal-changes : (cs ds : List Logged) → T (same_changes cs ds) → cs ≡ ds
equal-changes [] [] t = refl
equal-changes [] (d ∷ ds) t = absurd t
equal-changes (c ∷ cs) [] t = absurd t
equal-changes (c ∷ cs) (d ∷ ds) t =
    let here = same (logged_numbers c) (logged_numbers d) in
    let e = equal (logged_numbers c) (logged_numbers d) (left here (same_changes cs ds) t) in
    ap₂ ◌∷◌ (sym (back c) ∙ (ap from_numbers e ∙ back d)) (equal-changes cs ds (right here (same_changes cs ds) t))

-- ---- the law

computed : (w : Worked) → T (computes w) → Computed w
unfolding reached log_of
computed w t =
    let h = history_of w in
    let m = fresh h in
    let a = tale_of h in
    let told = same (joined a.answers) (says_answers w) in
    let durable = same_changes a.log.durable w.durable in
    let seen = same (pages_of w a.machine.volume) (joined w.shows) in
    let replay = all_replay w.pages a.machine.volume a.log.durable in
    let t1 = right (eqb (makes h) 0) (agrees w a) t in
    let t2 = right a.ok (told && (durable && (seen && replay))) t1 in
    let t3 = right told (durable && (seen && replay)) t2 in
    let t4 = right durable (seen && replay) t3 in
    record {
      legal =
          record {
            make = eqb→eq (makes h) 0 (left (eqb (makes h) 0) (agrees w a) t);
            events = sym (ok m empty_log h.events) ∙ holds a.ok (left a.ok (told && (durable && (seen && replay))) t1);
          };
      answers = sym (ap joined (answered m empty_log h.events))
          ∙ equal (joined a.answers) (says_answers w) (left told (durable && (seen && replay)) t2);
      durable =
          sym (ap (λ b. b.durable) (log m empty_log h.events))
          ∙ equal-changes a.log.durable w.durable (left durable (seen && replay) t3);
      pages =
          sym (ap (λ x. pages_of w x.volume) (machine m empty_log h.events))
          ∙ equal (pages_of w a.machine.volume) (joined w.shows) (left seen replay t4);
      replay =
          sym (ap₂ (λ x b. all_replay w.pages x.volume b.durable) (machine m empty_log h.events) (log m empty_log h.events))
          ∙ holds replay (right seen replay t4);
    }

pub all-computed : (ws : List Worked) → T (all_compute ws) → AllComputed ws
all-computed [] t = tt
all-computed (w ∷ ws) t = (computed w (left (computes w) (all_compute ws) t), all-computed ws (right (computes w) (all_compute ws) t))

pub both : (ws zs : List Worked) → AllComputed ws → AllComputed zs → AllComputed (ws ++ zs)
both [] zs a b = b
both (w ∷ ws) zs a b = (a.0, both ws zs a.1 b)
