-- The claims for C hold: the state of a history's machine is well formed, so its numbers fit and give it back; and a
-- history with one event more is one step further.
use Prim.Native.Nat.{ℕ}
use mathlib.Core.Path.{◌≡◌, refl, ◌∙◌}
use mathlib.Core.Logic.{◌≢◌}
use mathlib.Core.Bool.{true, false}
use mathlib.Core.List.{List, [], ◌∷◌, ◌++◌}
use native.Mathlib.Omega.{arith}
use lib.Dec.{eqb}
use lib.ListN.{length}
use borrow.Author.Tests.{eq-eqb}
use Rattle.laws.proofs.Tables.{by_cases, true-not-false}
use Rattle.laws.proofs.Demand1.{demand1}
use Rattle.history.proofs.Reached.{live}
use Rattle.history.proofs.WellFormed.{state-ok, volume-ok}
use Rattle.upkeep_theory.proofs.Text.{run-append}
use Rattle.model.specs.Tables.{first_of}
use Rattle.model.specs.State.{frame_count, zero_state}
use Rattle.model.specs.Refusals.{make_rows, restart_rows}
use Rattle.model.specs.Demand1.{Arrays}
use Rattle.model.specs.Outcome.{decided, refusal_of}
use Rattle.model.specs.Calls.{Call, outcome_of}
use Rattle.model.specs.Restart.{make_of, restart_of}
use Rattle.model.specs.History.{off, on, Machine, Event, restart, perform, lent, step, payload_fits}
use Rattle.model.specs.History.{is_start_carry, allowed, fresh_machine, all_allowed, run}
use Rattle.model.specs.Claim.{History, Legal, fresh, reached}
use Rattle.model.specs.declared.{geometry.Heading.Heading, state.State.State, answer.Answer.Answer}
use Rattle.model.specs.declared.answer.Answer.TheVariants.{Refused, Nothing, Done, Repaired}
use Rattle.face.specs.Numbers.{numbers_of}
use Rattle.face.specs.Face.{answer_number, face_of, Restarted, restarted_of}
use Rattle.face.specs.Claim.{Holds, then, CallIs, RestartIs, MakeIs, Leaves, CHistory, HistoriesForC}
use Rattle.numbers.proofs.NumberLaws.{Stated}
use Rattle.called.proofs.Claims.{formed-stated, called}
use Rattle.called.proofs.Reports.{reported}

-- ---- one event more

pub then_is : (h : History) (e : Event) → reached (then h e) ≡ step (reached h) e
unfolding reached run
then_is h e = run-append (fresh h) h.events (e ∷ [])

more-allowed : (w : Machine) (es : List Event) (e : Event) → all_allowed w es ≡ true → allowed (run w es) e ≡ true
    → all_allowed w (es ++ (e ∷ [])) ≡ true
unfolding all_allowed run
more-allowed w [] e t a = rw a
more-allowed w (d ∷ es) e t a =
    by_cases (allowed w d) (λ y. rw y (more-allowed (step w d) es e (rw y at t) a))
    (λ y. absurd (true-not-false (rw y at t) refl))

legal-then : (h : History) → Legal h → (e : Event) → allowed (reached h) e ≡ true → Legal (then h e)
unfolding reached
legal-then h legal e a =
    record { make = legal.make; events = more-allowed (fresh h) h.events e legal.events a }

restart-comes : (w : Machine) (m : List ℕ) → allowed w (restart m) ≡ true
unfolding allowed
restart-comes w m = refl

call-comes : (w : Machine) (v m xs : List ℕ) → Holds v m xs w → (c : Call) → payload_fits c ≡ true
    → is_start_carry c ≡ false → allowed w (perform c) ≡ true
unfolding allowed
call-comes w v m xs k c p s = rw (k.power, p, s)

-- ---- a call

module _ (h : History) (legal : Legal h) (m : List ℕ) (s : State) (e : (reached h).power ≡ on m s) where
  arrays : Arrays s
  arrays = let x = live h legal m s e in record { frames = x.al.frames.size; index = x.al.index.size }

  stated : Stated s
  stated =
      let x = live h legal m s e in
      formed-stated (reached h).volume (frame_count (length m)) s arrays (volume-ok x) (state-ok x)

  call-is : (c : Call) (report : List ℕ) → length report ≡ 5
      → CallIs c (reached h).volume m s report (face_of c (reached h).volume m (numbers_of s) report)
      (step (reached h) (perform c))
  unfolding step
  call-is c report l =
      let o = outcome_of c (reached h).volume m s in
      rw (called c (reached h).volume m s report stated l, e)
      (record {
        answer = refl;
        report = reported (reached h).volume o.stored
            (demand1.calls c (reached h).volume m s arrays).stored report o.answer;
        holds = record { state = o.state; volume = refl; power = refl; numbers = refl };
      })

  leaves : (c : Call) (report : List ℕ) → length report ≡ 5
      → Leaves (face_of c (reached h).volume m (numbers_of s) report) (step (reached h) (perform c))
  unfolding step
  leaves c report l =
      rw (called c (reached h).volume m s report stated l, e)
      (record { next = (outcome_of c (reached h).volume m s).state; volume = refl; power = refl; state = refl })

pub c-history : CHistory
c-history = leaves

calls : (h : History) → Legal h → (v m xs : List ℕ) → (k : Holds v m xs (reached h))
    → (c : Call) (report : List ℕ) → length report ≡ 5
    → CallIs c v m k.state report (face_of c v m xs report) (reached (then h (perform c)))
calls h legal v m xs k c report l =
    rw (k.volume, k.numbers, then_is h (perform c)) (call-is h legal m k.state k.power c report l)

-- ---- a Restart

zero-not : (n : ℕ) → eqb n 0 ≡ false → n ≢ 0
zero-not n e z = let y : ◌≡◌ {A = ℕ} 0 1 = let t = eq-eqb n 0 z in cc in omega arith

module _ (w : Machine) (m xs : List ℕ) (l : length xs ≡ 360) where
  abbrev mem : List ℕ
  mem = lent w.power m

  abbrev after : Restarted
  after = restarted_of w.volume mem xs

  restart-answer : after.answer ≡ answer_number (restart_of w.volume mem).answer
  unfolding restarted_of
  restart-answer = rw (eq-eqb (length xs) 360 l)

  restart-done : after.answer ≡ 0 → Holds w.volume after.memory after.state (step w (restart m))
  unfolding step restarted_of restart_of decided
  restart-done =
      let n = first_of (restart_rows w.volume mem) in
      by_cases (eqb n 0)
      (λ t. rw (eq-eqb (length xs) 360 l, t) (λ z. record { state = _; volume = refl; power = refl; numbers = refl }))
      (λ t. rw (eq-eqb (length xs) 360 l, t) (λ z. absurd (zero-not n t z)))

  restart-refused : after.answer ≢ 0
      → ((step w (restart m)).power ≡ off) × (after.memory ≡ mem) × (after.state ≡ numbers_of zero_state)
  unfolding step restarted_of restart_of decided
  restart-refused =
      let n = first_of (restart_rows w.volume mem) in
      by_cases (eqb n 0) (λ t. rw (eq-eqb (length xs) 360 l, t) (λ z. absurd (z refl)))
      (λ t. rw (eq-eqb (length xs) 360 l, t) (λ z. (refl, refl, refl)))

  restart-is : RestartIs w.volume mem after (step w (restart m))
  unfolding step
  restart-is = record { answer = restart-answer; volume = refl; done = restart-done; refused = restart-refused }

restarts : (h : History) → Legal h → (m xs : List ℕ) → length xs ≡ 360
    → RestartIs (reached h).volume (lent (reached h).power m)
    (restarted_of (reached h).volume (lent (reached h).power m) xs) (reached (then h (restart m)))
restarts h legal m xs l = rw (then_is h (restart m)) (restart-is (reached h) m xs l)

-- ---- a Make

not-refused : (a : Answer) → answer_number a ≡ 0 → refusal_of a ≡ 0
not-refused (Refused n) e = e
not-refused Nothing e = absurd (omega (arith, e))
not-refused Done e = refl
not-refused (Repaired r) e = refl

make-is : (t : Heading) (found : List ℕ) (p b l n : ℕ) → answer_number (make_of t found p b l n).answer ≡ 0
    → MakeIs t found p b l n
unfolding reached run fresh_machine all_allowed
make-is t found p b l n e =
    record {
      legal = record { make = not-refused (make_of t found p b l n).answer e; events = refl };
      volume = refl;
      power = refl;
    }

same_number : (t : Heading) (found : List ℕ) (p b l n : ℕ)
    → answer_number (make_of t found p b l n).answer ≡ refusal_of (make_of t found p b l n).answer
unfolding make_of
same_number t found p b l n = by_cases (eqb (first_of (make_rows found p b l n)) 0) (λ z. rw z) (λ z. rw z)

begun : (h : History) → Legal h
    → answer_number (make_of h.heading h.found h.pages h.slots h.records h.notes).answer ≡ 0
begun h legal =
    same_number h.heading h.found h.pages h.slots h.records h.notes ∙ legal.make

pub histories-for-c : HistoriesForC
histories-for-c = record {
  make = make-is;
  begun = begun;
  restarts = restarts;
  calls = calls;
  legal = legal-then;
  restart_comes = restart-comes;
  call_comes = call-comes;
}
