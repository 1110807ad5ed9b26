-- T2, the notes' half of the invariant (docs/UPKEEP.md: M1, M2), and that every event keeps it. Places are counted from
-- 0: note suc a. k is the
-- count of notes, k0 what it was when upkeep was last idle; note position 1 is the place a with a + N = k, position 2
-- that with
-- a + N = k + 1.
use mathlib.Core.Path.{◌≡◌, refl, sym, ap, ◌∙◌}
use mathlib.Core.Bool.{true, false, ◌&&◌, not}
use mathlib.Core.List.{List}
use Prim.Native.Nat.{ℕ, suc, ◌+◌, ◌-◌, ◌≤◌, ◌<◌}
use native.Mathlib.Omega.{arith}
use native.Mathlib.Decide.{dec_lt}
use lib.Dec.{eqb}
use lib.ListN.{length}
use borrow.Author.Tests.{eq-eqb, eqb-true, lt-ltb, not-true}
use Rattle.laws.proofs.Tables.{by_cases, and_left, and_right, and_both, every-at, true-not-false}
use Rattle.laws.proofs.Ring.{slot-in}
use Rattle.model.specs.Tables.{every}
use Rattle.model.specs.Checksum.{sealed}
use Rattle.model.specs.Geometry.{note_at, item, store, slot_of, note_slot}
use Rattle.model.specs.Item.{note_of, note_bytes}
use Rattle.model.specs.Scan.{note_record}
use Rattle.model.specs.State.{note_needed, note_whole, note_like}
use Rattle.model.specs.declared.{geometry.Geometry.Geometry, item.Note.Note}
use Rattle.model.specs.declared.state.State.{State}
use Rattle.history.proofs.Sections.{Volume}
use Rattle.upkeep_policy.specs.Upkeep.{note_ahead}
use Rattle.upkeep_theory.proofs.Shift.{alike, note-same, torn-first, torn-others, note-shift, note-read-new}
use Rattle.upkeep_theory.proofs.Shift.{note-read-old}
use Rattle.model.specs.Types.{PendingNote, None, Some}

-- ---- notes of the same page and kind

pub alike-parts : (a b : Note) → alike a b ≡ true → (b.page ≡ a.page) × (b.kind ≡ a.kind)
alike-parts a b t = (
  eqb-true b.page a.page (and_left (eqb b.page a.page) (eqb b.kind a.kind) t),
  eqb-true b.kind a.kind (and_right (eqb b.page a.page) (eqb b.kind a.kind) t),
)

pub alike-holds : (a b : Note) → b.page ≡ a.page → b.kind ≡ a.kind → alike a b ≡ true
alike-holds a b p q = and_both (eq-eqb b.page a.page p) (eq-eqb b.kind a.kind q)

-- x is like y, and y unlike z: x is unlike z
pub unlike : (x y z : Note) → alike x y ≡ true → alike x z ≡ false → alike z y ≡ false
unlike x y z t f = by_cases (alike z y)
    (λ u. let a = alike-parts x y t in let b = alike-parts z y u in
    absurd (true-not-false (alike-holds x z (sym b.0 ∙ a.0) (sym b.1 ∙ a.1)) f))
    (λ u. u)

-- ---- the invariant

pub record NotesTidy (g : Geometry) (v : List ℕ) (k k0 : ℕ) (noting : PendingNote) : Type 0 where
  pub low : k0 ≤ k
  -- M1: position 1 is spare; position 2 too while no note came; and where a note is owed, position 2 is of its page and
  -- kind or spare
  pub first : (a : ℕ) → a + g.notes ≡ k → note_needed g v k (suc a) ≡ false
  pub second : k ≡ k0 → (a : ℕ) → a + g.notes ≡ suc k → note_needed g v k (suc a) ≡ false
  pub renews : (n : Note) → noting ≡ Some n → (a : ℕ) → a + g.notes ≡ suc k → note_needed g v k (suc a) ≡ true
      → alike (note_record g v (suc a)) n ≡ true
  -- M2: the notes since k0, and the owed one, are of different pages or kinds
  pub differ : (a b : ℕ) → k0 ≤ a → a < b → b < k → alike (note_record g v (suc a)) (note_record g v (suc b)) ≡ false
  pub differ-noting : (n : Note) → noting ≡ Some n → (a : ℕ) → k0 ≤ a → a < k
      → alike (note_record g v (suc a)) n ≡ false

pub no-present : {A : Type 0} (n : Note) → None ≡ Some n → A
no-present n e = let z : ◌≡◌ {A = ℕ} 0 1 = cc in absurd (omega arith)

present-is : (n y : Note) → Some y ≡ Some n → n ≡ y
present-is n y e = cc

module _ (g : Geometry) (v : List ℕ) where
  -- upkeep is idle: k0 is the count
  pub tidy-idle : (k : ℕ) → ((a : ℕ) → a + g.notes ≡ k → note_needed g v k (suc a) ≡ false)
      → ((a : ℕ) → a + g.notes ≡ suc k → note_needed g v k (suc a) ≡ false) → NotesTidy g v k k None
  tidy-idle k one two =
      record {
        low = omega arith;
        first = one;
        second = λ e. two;
        renews = λ n e. no-present n e;
        differ = λ a b x y z. absurd (omega arith);
        differ-noting = λ n e. no-present n e;
      }

  module _ {k k0 : ℕ} {noting : PendingNote} (t : NotesTidy g v k k0 noting) where
    -- what is owed is lost
    pub tidy-lost : NotesTidy g v k k0 None
    tidy-lost =
        record {
          low = t.low;
          first = t.first;
          second = t.second;
          renews = λ n e. no-present n e;
          differ = t.differ;
          differ-noting = λ n e. no-present n e;
        }

    -- a note is owed: of position 2's page and kind where that is needed, and unlike those since k0
    pub tidy-leave : (n : Note) → ((a : ℕ) → a + g.notes ≡ suc k → note_needed g v k (suc a) ≡ true
        → alike (note_record g v (suc a)) n ≡ true)
        → ((a : ℕ) → k0 ≤ a → a < k → alike (note_record g v (suc a)) n ≡ false) → NotesTidy g v k k0 (Some n)
    tidy-leave n two new =
        record {
          low = t.low;
          first = t.first;
          second = t.second;
          renews = λ y e a q u. rw (present-is y n e) (two a q u);
          differ = t.differ;
          differ-noting = λ y e a p q. rw (present-is y n e) (new a p q);
        }

    -- the user's note
    pub leave-user : k ≡ k0 → (n : Note) → NotesTidy g v k k0 (Some n)
    leave-user e n = tidy-leave n (λ a q u. absurd (true-not-false u (t.second e a q))) (λ a p q. absurd (omega arith))

    -- the renewal of position 2
    pub leave-second : 2 ≤ g.notes → k + 2 ≤ k0 + g.notes → ((b : ℕ) → k0 ≤ b → b < k → note_whole g v (suc b) ≡ true)
        → (a : ℕ) → a + g.notes ≡ suc k → note_needed g v k (suc a) ≡ true
        → (n : Note) → alike (note_record g v (suc a)) n ≡ true → NotesTidy g v k k0 (Some n)
    unfolding note_needed
    leave-second two near whole a e u n same =
        tidy-leave n (λ b q y. let z : b ≡ a = omega arith in rw z same)
        (λ b p q.
        let later = and_right (note_whole g v (suc a))
        (every (k - suc a) (λ c. not (note_whole g v (suc (suc a + c)) && note_like g v (suc a) (suc (suc a + c))))) u in
        let c = b - suc a in
        let s : suc a + (b - suc a) ≡ b = omega arith in
        let f : not (note_whole g v (suc (suc a + c)) && note_like g v (suc a) (suc (suc a + c))) ≡ true =
        every-at (λ c. not (note_whole g v (suc (suc a + c)) && note_like g v (suc a) (suc (suc a + c)))) (k - suc a)
        later c (omega arith) in
        let f' : not (note_whole g v (suc b) && note_like g v (suc a) (suc b)) ≡ true = rw s at f in
        let f'' : alike (note_record g v (suc a)) (note_record g v (suc b)) ≡ false =
        not-true _ (rw (whole b p q) at f') in
        unlike (note_record g v (suc a)) n (note_record g v (suc b)) same f'')

    -- a volume with the same notes
    pub tidy-same : 2 ≤ g.notes → Volume g v → k + 2 ≤ k0 + g.notes → (v' : List ℕ)
        → ((j : ℕ) → 1 ≤ j → j ≤ g.notes → item g v' (note_at j) ≡ item g v (note_at j)) → NotesTidy g v' k k0 noting
    tidy-same two vol near v' h =
        let one : 1 ≤ g.notes = omega arith in
        let same : (i : ℕ) → i < k → note_needed g v' k (suc i) ≡ note_needed g v k (suc i) =
        λ i b. note-same g v vol one v' k i b h in
        let rec : (i : ℕ) → note_record g v' (suc i) ≡ note_record g v (suc i) =
        λ i. ap note_of (let q = slot-in g.notes i one in h (slot_of g.notes (suc i)) q.0 q.1) in
        record {
          low = t.low;
          first = λ a e. same a (omega arith) ∙ t.first a e;
          second = λ q a e. same a (omega arith) ∙ t.second q a e;
          renews = λ n q a e u. rw (rec a) (t.renews n q a e (sym (same a (omega arith)) ∙ u));
          differ = λ a b x y z. rw (rec a, rec b) (t.differ a b x y z);
          differ-noting = λ n q a x y. rw (rec a) (t.differ-noting n q a x y);
        }

    -- the note slot of the next note is left torn
    pub tidy-torn : 2 ≤ g.notes → Volume g v → k + 2 ≤ k0 + g.notes → (xs : List ℕ) → length xs ≡ 16
        → sealed 12 xs ≡ false
        → NotesTidy g (store g v (note_slot g (suc k)) xs) k k0 None
    tidy-torn two vol near xs six bad =
        let one : 1 ≤ g.notes = omega arith in
        let v' = store g v (note_slot g (suc k)) xs in
        let rec : (i : ℕ) → i < k → k < i + g.notes → note_record g v' (suc i) ≡ note_record g v (suc i) =
        note-read-old g v vol one k xs six in
        record {
          low = t.low;
          first = λ a e. torn-first g v vol one k xs six bad a (sym e);
          second = λ q a e. torn-others g v vol one k xs six a (omega arith) (omega arith) ∙ t.second q a e;
          renews = λ n e. no-present n e;
          differ = λ a b x y z. rw (rec a (omega arith) (omega arith), rec b z (omega arith)) (t.differ a b x y z);
          differ-noting = λ n e. no-present n e;
        }

  -- the owed note is stored: positions shift by one
  pub tidy-note : {k k0 : ℕ} (n : Note) → NotesTidy g v k k0 (Some n) → 2 ≤ g.notes → Volume g v
      → k + 2 ≤ k0 + g.notes
      → length (note_bytes n) ≡ 16 → note_of (note_bytes n) ≡ n → n.number ≡ suc k
      → NotesTidy g (store g v (note_slot g (suc k)) (note_bytes n)) (suc k) k0 None
  tidy-note {k} {k0} n t two vol near six back num =
      let one : 1 ≤ g.notes = omega arith in
      let v' = store g v (note_slot g (suc k)) (note_bytes n) in
      let rec : (i : ℕ) → i < k → k < i + g.notes → note_record g v' (suc i) ≡ note_record g v (suc i) =
      note-read-old g v vol one k (note_bytes n) six in
      let new : note_record g v' (suc k) ≡ n = note-read-new g v vol one k n six back in
      record {
        low = omega (arith, t.low);
        first = λ a e. note-shift g v vol one k n six back num a (omega arith) (omega arith)
            ∙ by_cases (note_needed g v k (suc a))
            (λ u. rw (u, t.renews n refl a e u)) (λ u. rw u);
        second = λ q. absurd (omega (arith, t.low));
        renews = λ y e. no-present y e;
        differ = λ a b x y z. elim (dec_lt b k) [
          | yes l ↦ rw (rec a (omega arith) (omega arith), rec b l (omega arith)) (t.differ a b x y l)
          | no l ↦
              let q : b ≡ k = omega arith in
              rw (q, rec a (omega arith) (omega arith), new) (t.differ-noting n refl a x (omega arith))
        ];
        differ-noting = λ y e. no-present y e;
      }

-- ---- the same in the words of the policy

module _ (g : Geometry) (v : List ℕ) (s : State) where
  -- position i, at the place a
  pub ahead-is : (i a : ℕ) → a + g.notes ≡ s.notes + i - 1 → 1 ≤ i
      → note_ahead g v s i ≡ note_needed g v s.notes (suc a)
  unfolding note_ahead
  ahead-is i a e b =
      let q : s.notes + i - g.notes ≡ suc a = omega arith in
      rw (lt-ltb g.notes (s.notes + i) (omega arith), q)

  pub idle-tidy : note_ahead g v s 1 ≡ false → note_ahead g v s 2 ≡ false → NotesTidy g v s.notes s.notes None
  idle-tidy one two = tidy-idle g v s.notes
      (λ a e. sym (ahead-is 1 a (omega arith) (omega arith))
      ∙ one) (λ a e. sym (ahead-is 2 a (omega arith) (omega arith)) ∙ two)
