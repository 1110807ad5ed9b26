-- What the discipline's bounds tell: that no page has a written note, or that the cuts are few; and the pages that
-- have one once the pending note is stored.
use mathlib.Core.Path.{◌≡◌, sym, ap, ◌∙◌}
use mathlib.Core.Logic.{◌≢◌, ◌⊎◌, inl, inr, ⊎_elim}
use mathlib.Core.Bool.{true}
use mathlib.Core.List.{List, [], ◌∷◌, ◌++◌}
use Prim.Native.Nat.{ℕ, suc, ◌+◌, ◌-◌, ◌≤◌}
use native.Mathlib.Omega.{arith}
use native.Mathlib.Decide.{ℕ_discrete}
use lib.Dec.{eqb}
use lib.ListN.{length}
use borrow.Author.Tests.{eqb-true}
use Rattle.laws.proofs.Tables.{by_cases}
use Rattle.laws.proofs.Search.{count-some}
use Rattle.model.specs.Geometry.{geometry_of, store, note_slot}
use Rattle.model.specs.Index.{entry_of}
use Rattle.model.specs.Item.{note_bytes}
use Rattle.model.specs.State.{note_pending}
use Rattle.model.specs.Outcome.{StoredItem, volume_after, decided}
use Rattle.model.specs.Effects.{note_stored}
use Rattle.model.specs.Calls.{outcome_of, no_payload}
use Rattle.model.specs.Carry.{count_of}
use Rattle.model.specs.AbstractLog.{Logged}
use Rattle.model.specs.declared.{geometry.Geometry.Geometry, item.Note.Note, state.Entry.Entry}
use Rattle.model.specs.declared.{state.State.State}
use Rattle.history.proofs.Persists.{note-store}
use Rattle.history.proofs.Refusals.{own_rows, rows_are}
use Rattle.history.proofs.Marks.{mark_at}
use Rattle.history.proofs.Context.{Ctx, geo, entry-is, sized}
use Rattle.upkeep_policy.specs.Upkeep.{make, written_pages, upkeep_of}
use Rattle.upkeep_theory.proofs.Near.{wrote_in, written-pages}
use Rattle.model.specs.declared.command.Command.TheVariants.{Note as NoteCall}
use Rattle.model.specs.Types.{PendingNote, None, Some}

-- ---- the cap on cuts

module _ {C : Type 0} {g : Geometry} {v m : List ℕ} {past : List StoredItem} {s : State} {k w : List Logged}
    (x : Ctx C g v m past s k w) where
  -- no page has a written number, or some has
  pub none_or_some : ((p : ℕ) → 1 ≤ p → p ≤ g.pages → (entry_of s.index p).written ≡ 0) ⊎ (written_pages v ≢ 0)
  none_or_some = elim (ℕ_discrete (written_pages v) 0) [
    | yes z ↦ inl (λ p lo hi.
        let c : count_of 64 (wrote_in x.ns) ≡ 0 = sym (written-pages g v k x.hs x.ns x.no (geo x)) ∙ z in
        let q : suc (p - 1) ≡ p = omega arith in
        let e : (entry_of s.index p).written ≡ (mark_at p x.ns (length x.ns)).written =
        ap (λ (y : Entry). y.written) (entry-is x p lo hi) in
        e ∙ by_cases (eqb (mark_at p x.ns (length x.ns)).written 0) (λ t. eqb-true _ 0 t)
        (λ t. let y : wrote_in x.ns (p - 1) ≡ true = rw (q, t) in
        absurd (omega (arith, count-some (wrote_in x.ns) 64 (p - 1) (omega (arith, (sized x).p-high)) y))))
    | no z ↦ inr z
  ]

  pub cap-of : (W R cap cuts : ℕ) → (W ≡ 0) ⊎ (W + cap ≤ R) → written_pages v ≤ W → (written_pages v ≢ 0 → cuts ≤ cap)
      → ((p : ℕ) → 1 ≤ p → p ≤ g.pages → (entry_of s.index p).written ≡ 0) ⊎ (W + cuts ≤ R)
  cap-of W R cap cuts room few h = ⊎_elim inl (λ z. inr (let c = h z in
      ⊎_elim (λ e. absurd (z (omega arith))) (λ e. omega arith) room)) none_or_some

-- ---- the volume after the owed note

module _ {C : Type 0} {g : Geometry} {v m : List ℕ} {past : List StoredItem} {s : State} {k w : List Logged}
    (x : Ctx C g v m past s k w) (n : Note) (noting : s.note ≡ Some n) where
  stored_of : (y : PendingNote) → y ≡ Some n
      → volume_after v (note_stored v m s y).stored ≡ store (geometry_of v) v (note_slot (geometry_of v) (s.notes + 1))
      (note_bytes n)
  unfolding volume_after
  stored_of None e = let z : ◌≡◌ {A = ℕ} 0 1 = cc in absurd (omega arith)
  stored_of (Some y) e = let z : y ≡ n = cc in rw z

  note-volume : volume_after v (outcome_of (NoteCall, no_payload) v m s).stored ≡ store g v (note_slot g (s.notes + 1)) (note_bytes n)
  unfolding decided own_rows
  note-volume = rw (rows_are x (NoteCall, no_payload)) (rw (geo x) at (stored_of s.note noting))

  pub note-pages : written_pages (volume_after v (outcome_of (NoteCall, no_payload) v m s).stored)
      ≡ count_of 64 (wrote_in (x.ns ++ (n ∷ [])))
  note-pages =
      let st = note-store x n (rw noting at x.al.note-ok) in
      let v' = store g v (note_slot g (s.notes + 1)) (note_bytes n) in
      ap written_pages note-volume ∙ written-pages g v' k st.holds' (x.ns ++ (n ∷ [])) st.noted'
      st.holds'.vol.geo

  pub note-first : (r : ℕ) → upkeep_of v m s r ≡ make (NoteCall, no_payload)
  unfolding upkeep_of
  note-first r = let p : note_pending s.note ≡ true = rw noting in rw p
