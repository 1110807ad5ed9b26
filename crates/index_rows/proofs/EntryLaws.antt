-- Laws of the index: the search for a slot, and a note entered.
use mathlib.Core.Path.{◌≡◌, refl, ap, ◌∙◌}
use mathlib.Core.Bool.{Bool, true, false, ◌||◌}
use mathlib.Core.List.{List, [], ◌∷◌}
use Prim.Native.Nat.{ℕ, ◌+◌, ◌-◌, ◌≤◌, ◌<◌}
use native.Mathlib.Numerals.{add-one}
use lib.Dec.{eqb}
use lib.ListN.{length, drop, get_or, set, drop_of_length-le}
use lib.Seq.{drop-cons}
use borrow.Author.Tests.{eq-eqb, ne_eqb}
use Rattle.std.specs.List.{list_any}
use Rattle.model.specs.Index.{empty_entry, slot_used, with_note, enter_note}
use Rattle.model.specs.declared.{item.Note.Note, state.Entry.Entry}
use Rattle.log_scan.specs.Rows.{row_of}
use Rattle.log_scan.proofs.RowLaws.{row_is}

-- ---- a slot in the index

pub used-any : (b : ℕ) (l : List Entry) → list_any (λ (e : Entry). eqb e.slot b) l ≡ slot_used b l
unfolding slot_used
used-any b [] = refl
used-any b (e ∷ l) = ap (λ (t : Bool). eqb e.slot b || t) (used-any b l)

-- the same, row by row
module _ (b : ℕ) (l : List Entry) (i : ℕ) where
  pub used-here : i < length l → (get_or l i empty_entry).slot ≡ b → slot_used b (drop i l) ≡ true
  unfolding slot_used
  used-here h e = rw (drop-cons l i empty_entry, eq-eqb (get_or l i empty_entry).slot b e)

  pub used-on : i < length l → ((get_or l i empty_entry).slot ≡ b → ⊥) → slot_used b (drop i l) ≡ slot_used b (drop (i + 1) l)
  unfolding slot_used
  used-on h e = rw (add-one, drop-cons l i empty_entry, ne_eqb (get_or l i empty_entry).slot b e)

  pub used-end : length l ≤ i → slot_used b (drop i l) ≡ false
  unfolding slot_used
  used-end h = rw (drop_of_length-le l h)

-- ---- a note entered in a page's row

pub entered : (l : List Entry) (n : Note) (i : ℕ) (e : Entry) → n.page ≤ 64 → i ≡ row_of n.page → e ≡ with_note (get_or l i empty_entry) n
    → set l i e ≡ enter_note l n
unfolding enter_note
entered l n i e h r k = let q : i ≡ n.page - 1 = r ∙ row_is n.page h in rw (k, q)
