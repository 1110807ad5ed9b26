-- T2's measure: the renewal of a backup note at position 2 has three calls left (U3).
use mathlib.Core.Path.{◌≡◌, sym, ap, ◌∙◌}
use mathlib.Core.Logic.{◌≢◌}
use mathlib.Core.Bool.{true, false, ◌&&◌, not}
use mathlib.Core.List.{List}
use Prim.Native.Nat.{ℕ, suc, ◌+◌, ◌-◌, ◌≤◌, ◌<◌}
use native.Mathlib.Omega.{arith}
use lib.ListN.{length}
use borrow.Author.Tests.{not-true}
use Rattle.laws.proofs.Tables.{and_right, every-at, true-not-false}
use Rattle.model.specs.Tables.{every}
use Rattle.model.specs.Geometry.{ring}
use Rattle.model.specs.Item.{is_written}
use Rattle.model.specs.Scan.{note_record}
use Rattle.model.specs.State.{note_needed, note_whole, note_like}
use Rattle.model.specs.Outcome.{StoredItem}
use Rattle.model.specs.Carry.{count_of}
use Rattle.model.specs.AbstractLog.{Logged}
use Rattle.model.specs.declared.{geometry.Geometry.Geometry, item.Note.Note, state.State.State}
use Rattle.history.proofs.Context.{Ctx}
use Rattle.upkeep_theory.proofs.NotesTidy.{alike-holds}
use Rattle.upkeep_theory.proofs.Near.{wrote_in, stands-whole}
use Rattle.upkeep_theory.proofs.Tidy.{Tidy, since_written}
use Rattle.upkeep_theory.proofs.Step.{place2}
use Rattle.upkeep_theory.proofs.Measure.{rest_of, three-of}
use Rattle.history.proofs.Marks.{note as note'}

module _ {C : Type 0} {g : Geometry} {v m : List ℕ} {past : List StoredItem} {s : State} {k w : List Logged}
    (x : Ctx C g v m past s k w) (turns : ring g ≡ true) (n2 : 2 ≤ g.notes) (cuts : ℕ) (t : Tidy g v s cuts)
    (W : ℕ) (fl : count_of 64 (wrote_in x.ns) ≤ W) (at2 : place2 x turns n2 + g.notes ≡ suc s.notes)
    (need : note_needed g v s.notes (suc (place2 x turns n2)) ≡ true)
    (wr : is_written (note_record g v (suc (place2 x turns n2))) ≡ false) where
  abbrev a : ℕ
  a = place2 x turns n2

  ab : a < length x.ns
  ab = omega (arith, x.al.notes-is)

  is-note : note_record g v (suc a) ≡ note' x.ns a
  is-note = (stands-whole g v k x.hs x.ns x.no a ab (omega (arith, x.al.notes-is))).0

  -- a backup note is of kind 2
  kind-of : (b : ℕ) → b < length x.ns → note_record g v (suc b) ≡ note' x.ns b
      → is_written (note_record g v (suc b)) ≡ false
      → (note_record g v (suc b)).kind ≡ 2
  kind-of b l e u = rw e ((x.no.fit b l).backed (rw e at u)).kind-is

  -- no backup note since k0 is of its page
  none-since : (b : ℕ) → t.z.k0 ≤ b → b < s.notes → is_written (note_record g v (suc b)) ≡ false
      → (note_record g v (suc b)).page ≢ (note' x.ns a).page
  unfolding note_needed
  none-since b lo hi u e =
      let bb : b < length x.ns = omega (arith, x.al.notes-is) in
      let st = stands-whole g v k x.hs x.ns x.no b bb (omega (arith, t.near, x.al.notes-is)) in
      let wh : note_whole g v (suc b) ≡ true = st.1 in
      let later = and_right (note_whole g v (suc a))
      (every (s.notes - suc a) (λ c. not (note_whole g v (suc (suc a + c)) && note_like g v (suc a) (suc (suc a + c)))))
      need in
      let c = b - suc a in
      let sm : suc a + (b - suc a) ≡ b = omega (arith, t.near) in
      let f : not (note_whole g v (suc (suc a + c)) && note_like g v (suc a) (suc (suc a + c))) ≡ true =
      every-at (λ c. not (note_whole g v (suc (suc a + c)) && note_like g v (suc a) (suc (suc a + c))))
      (s.notes - suc a) later c
      (omega (arith, t.notes.low, t.near)) in
      let f' : not (note_whole g v (suc b) && note_like g v (suc a) (suc b)) ≡ true = rw sm at f in
      let like : note_like g v (suc a) (suc b) ≡ true =
      alike-holds (note_record g v (suc a)) (note_record g v (suc b)) (e ∙ sym (ap (λ (n : Note). n.page) is-note))
      (kind-of b bb st.0 u ∙ sym (kind-of a ab is-note wr)) in
      true-not-false like (not-true _ (rw wh at f'))

  pub three-second : 3 ≤ rest_of W g.pages (since_written g v s.notes t.z.k0) (s.notes - t.z.k0)
  three-second = let f = x.no.fit a ab in
      three-of x turns n2 cuts t W fl (note' x.ns a).page f.low f.high none-since
