-- The scan of a volume that holds a list of changes and a list of notes: the count and the run of the notes that it
-- gives back.
use mathlib.Core.Path.{◌≡◌, refl, ap, ◌∙◌}
use mathlib.Core.Logic.{⊎_elim}
use mathlib.Core.Bool.{Bool, true, false}
use mathlib.Core.List.{List}
use Prim.Native.Nat.{ℕ, zero, suc, ◌+◌, ◌-◌, ◌*◌, ◌≤◌, ◌<◌}
use native.Mathlib.Omega.{arith}
use native.Mathlib.Decide.{dec_lt, ℕ_discrete}
use lib.ListN.{length}
use Rattle.laws.proofs.Ring.{Start}
use Rattle.laws.proofs.Places.{item-length}
use Rattle.model.specs.Bytes.{field, part, all_zero}
use Rattle.model.specs.Checksum.{sealed}
use Rattle.model.specs.Geometry.{note_at, start, item, ring, top_number, note_slot}
use Rattle.model.specs.Item.{note_of, note_bytes}
use Rattle.model.specs.Scan.{note_record, note_slots, ends_in, note_count, first_note, count_in, first_in}
use Rattle.model.specs.AbstractLog.{Logged}
use Rattle.model.specs.declared.{geometry.Geometry.Geometry, item.Note.Note}
use Rattle.history.proofs.Marks.{note, kind_matches, last_by, by_le, by-is, by-ge, Later}
use Rattle.laws.proofs.Notes.{note-sealed}
use Rattle.history.proofs.Leaf.{note-read}
use Rattle.history.proofs.Sections.{Sized, volume-sized, volume-size, most-high, notes-high, notes-plain}
use Rattle.history.proofs.Runs.{section-start, section-count, section-ends}
use Rattle.history.proofs.Disk.{NoteStands, Holds, Noted}
use Rattle.history.proofs.LogScan.{fails-zero, in_run, run-yes, run-no}

note-part : (g : Geometry) (v : List ℕ) (i : ℕ) → part v (start g (note_at 1) + (12 + 4) * i) (12 + 4) ≡ item g v (note_at (suc i))
unfolding item
note-part g v i =
    let e : start g (note_at 1) + (12 + 4) * i ≡ start g (note_at (suc i)) = omega arith in
    ap (λ (k : ℕ). part v k 16) e

note-number : (r : List ℕ) → field 4 0 r ≡ (note_of r).number
unfolding note_of
note-number r = refl

module _ {C : Type 0} (g : Geometry) (v : List ℕ) (l : List Logged) (h : Holds g v l) (ns : List Note) (o : Noted C g v l ns) where
  sz : Sized g
  sz = volume-sized g v h.vol

  notes-room : ring g ≡ false → length ns ≤ g.notes
  notes-room t = omega (arith, o.few, notes-plain g sz t)

  -- where there is a note there is a slot: the last one has no later
  notes-low : 1 ≤ length ns → 1 ≤ g.notes
  notes-low a = elim (ℕ_discrete g.notes 0) [
    | yes z ↦ absurd (let t = o.notes.lost (length ns - 1) (omega arith) in omega (arith, t.above, t.below))
    | no z ↦ omega arith
  ]

  note-bounds : (i : ℕ) (b : i < length ns) → ((note ns i).number ≤ top_number) × ((note ns i).page ≤ 64) × ((note ns i).lsn ≤ top_number)
  note-bounds i b =
      let f = o.fit i b in (
        omega (arith, f.number_is, o.few, notes-high g sz),
        omega (arith, f.high, sz.p-high),
        omega (arith, f.below, h.room, most-high g sz),
      )

  pub note-back : (i : ℕ) → i < length ns → note_of (note_bytes (note ns i)) ≡ note ns i
  note-back i b = let k = note-bounds i b in note-read (note ns i) k.0 k.1 k.2

  abbrev note_of_bytes : ℕ → List ℕ
  note_of_bytes i = note_bytes (note ns i)

  note-start : (f : ℕ) × (first_note g v (length ns) ≡ suc f) × Start g.notes (length ns) f (NoteStands g v ns) (Later ns)
  unfolding first_note first_in
  note-start =
      section-start g v note_at 12 g.notes (length ns) (ring g) note_of_bytes (Later ns) o.notes
      (λ i b. note-sealed (note ns i)) notes-room notes-low

  pub nfirst : ℕ
  nfirst = note-start.0

  pub nfirst-is : first_note g v (length ns) ≡ suc nfirst
  unfolding nfirst
  nfirst-is = note-start.1

  pub nstarted : Start g.notes (length ns) nfirst (NoteStands g v ns) (Later ns)
  unfolding nfirst
  nstarted = note-start.2

  note-top : 1 ≤ length ns → item g v (note_slot g (suc (length ns - 1))) ≡ note_bytes (note ns (length ns - 1))
  note-top a = run-last (λ t. omega (arith, t.above, t.below))
    where
      run-last : (Later ns (length ns - 1) → ⊥) → item g v (note_slot g (suc (length ns - 1))) ≡ note_bytes (note ns (length ns - 1))
      run-last no-later = elim (dec_lt (length ns) (length ns - 1 + g.notes)) [
        | yes y ↦ o.notes.held (length ns - 1) (omega arith) y
        | no z ↦
            ⊎_elim (λ w. w) (λ t. absurd (no-later t.2)) (o.notes.oldest (length ns - 1) (omega arith) (omega (arith, notes-low a)))
      ]

  note-numbers : (i : ℕ) → i < length ns → field 4 0 (note_bytes (note ns i)) ≡ suc i
  note-numbers i b = note-number (note_bytes (note ns i)) ∙ (ap (λ (y : Note). y.number) (note-back i b) ∙ (o.fit i b).number_is)

  note-zeros : (i : ℕ) → 1 ≤ i → i ≤ g.notes → all_zero (item g v (note_at i)) ≡ true → sealed 12 (item g v (note_at i)) ≡ false
  note-zeros i a b z = fails-zero 12 16 (item g v (note_at i)) (item-length g v (volume-size g v h.vol) (note_at i) (a, b)) (omega arith) z

  pub note-count : note_count g v ≡ length ns
  unfolding note_count count_in
  note-count =
      section-count g v note_at 12 g.notes (length ns) (ring g) note_of_bytes (Later ns) o.notes
      (λ i b. note-sealed (note ns i)) notes-room notes-low
      note-numbers note-top o.tail note-zeros (start g (note_at 1)) (note-part g v)

  -- what follows the last note
  pub notes-end : ends_in v (note_slots g v) (suc nfirst) (length ns) ≡ true
  notes-end =
      section-ends g v note_at 12 g.notes (length ns) (ring g) note_of_bytes (Later ns) o.notes
      (λ i b. note-sealed (note ns i)) notes-room notes-low
      note-numbers note-top o.tail note-zeros (start g (note_at 1)) (note-part g v) nfirst nstarted.ends

  pub note-ok : (i : ℕ) → i < length ns → nfirst ≤ i → note_record g v (suc i) ≡ note ns i
  note-ok i b f = rw (nstarted.held i b f) (note-back i b)

  -- MARKS: the last notes of a page and kind are in the run
  pub last-in-run : (t : Bool) (p : ℕ) → in_run nfirst (last_by t p ns (length ns)) ≡ last_by t p ns (length ns)
  last-in-run t p = go (last_by t p ns (length ns)) refl
    where
      same_kind : (t : Bool) (x y : Note) → x.kind ≡ y.kind → kind_matches t y ≡ true → kind_matches t x ≡ true
      same_kind true x y e k = rw e k
      same_kind false x y e k = rw e k

      go : (n : ℕ) → last_by t p ns (length ns) ≡ n → in_run nfirst n ≡ n
      go zero e = run-no nfirst 0 (omega arith)
      go (suc i) e = elim (dec_lt nfirst (suc i)) [
        | yes y ↦ run-yes nfirst (suc i) y
        | no z ↦
            let q = by-is p ns t (length ns) i e in
            let b : i < length ns = omega (arith, by_le p ns t (length ns)) in
            let w = nstarted.lost i b (omega arith) in
            let ge : suc w.place ≤ last_by t p ns (length ns) =
            by-ge p ns t (length ns) w.place w.below (w.page-is ∙ q.0)
            (same_kind t (note ns w.place) (note ns i) w.kind-is q.1) in
            absurd (omega (arith, w.above))
      ]
