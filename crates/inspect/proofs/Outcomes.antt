-- What the definition of Inspect says in each of its cases, and what the code needs to know once it is not refused.
use mathlib.Core.Path.{◌≡◌, refl, sym, ap, ◌∙◌}
use mathlib.Core.Bool.{Bool, true, false, cond, not}
use mathlib.Core.List.{List}
use Prim.Native.Nat.{ℕ}
use native.Mathlib.Omega.{arith}
use lib.ListN.{length}
use borrow.Author.Tests.{eq-eqb, ne_eqb, eqb-false}
use Rattle.laws.proofs.Tables.{by_cases, within-bounds}
use Rattle.laws.proofs.Places.{valid-facts}
use Rattle.repair.proofs.Scanned.{scanned-ready}
use Rattle.repair.proofs.Unbroken.{scanned-whole}
use Rattle.model.specs.Tables.{first_of, within}
use Rattle.model.specs.Checksum.{seal_image}
use Rattle.model.specs.Geometry.{known_magic, geometry_of, valid_volume}
use Rattle.model.specs.Index.{entry_of}
use Rattle.model.specs.Scan.{valid_log, valid_notes, index_of}
use Rattle.model.specs.Repair.{view_of, walk_of, is_below, repair_of, rebuilt}
use Rattle.model.specs.Refusals.{inspect_rows}
use Rattle.model.specs.Restart.{inspect_of}
use Rattle.model.specs.declared.{geometry.Geometry.Geometry, answer.Repair.Repair, answer.Answer.Answer}
use Rattle.model.specs.declared.answer.Answer.TheVariants.{Refused, Repaired}
use Rattle.index.specs.Scanned.{scan_rows, scan_refusal, found_of}
use Rattle.index.specs.declared.Found.{Found}
use Rattle.volume.specs.declared.Volume.{Volume}
use Rattle.repair.specs.Walked.{Ready, Whole, walked_of}
use Rattle.repair.specs.declared.walk.Walked.{Walked}

module _ (v : List ℕ) (page : ℕ) (b : List ℕ) where
  -- what the call is to answer and to leave
  abbrev Left : Answer → List ℕ → Type 0
  Left a x = (a ≡ (inspect_of v page b).answer) × (x ≡ (inspect_of v page b).buffer)

  refuses : (n : ℕ) → n ≡ first_of (inspect_rows v page (length b)) → (n ≡ 0 → ⊥) → Left (Refused n) b
  unfolding inspect_of
  refuses n e ne = rw (ne_eqb (first_of (inspect_rows v page (length b))) 0 (λ z. ne (e ∙ z))) (ap Refused e, refl)

  pub invalid : (n : ℕ) → n ≡ cond (not (valid_volume v)) 1 0 → (n ≡ 0 → ⊥) → Left (Refused n) b
  unfolding inspect_rows
  invalid n e ne =
      by_cases (valid_volume v) (λ t. absurd (ne (rw t at e))) (λ t. refuses n (rw t (rw t at e)) ne)

  module _ (u : Volume) (u-is : u.bytes.now ≡ v) where
    valid : valid_volume v ≡ true
    valid = rw u-is at u.valid

    geometry-is : u.geometry ≡ geometry_of v
    geometry-is = u.read ∙ ap geometry_of u-is

    pub known : known_magic v ≡ true
    known = (valid-facts v valid).heading

    pub wrong-size : (length b ≡ 256 → ⊥) → Left (Refused 2) b
    unfolding inspect_rows
    wrong-size ne = refuses 2 (rw (valid, ne_eqb (length b) 256 ne)) (eqb-false 2 0 refl)

    module _ (size : length b ≡ 256) where
      pub no-page : within u.geometry.pages page ≡ false → Left (Refused 3) b
      unfolding inspect_rows
      no-page t =
          let z : within (geometry_of v).pages page ≡ false = rw geometry-is at t in
          refuses 3 (rw (valid, eq-eqb (length b) 256 size, z)) (eqb-false 3 0 refl)

      module _ (within-is : within u.geometry.pages page ≡ true) where
        inside : within (geometry_of v).pages page ≡ true
        inside = rw geometry-is at within-is

        pub scan-refused : (n : ℕ) → n ≡ scan_refusal v → (n ≡ 0 → ⊥) → Left (Refused n) b
        unfolding inspect_rows scan_rows
        scan-refused n e ne =
            let k = rw valid at e in
            refuses n (rw (valid, eq-eqb (length b) 256 size, inside)
            (by_cases (valid_log (geometry_of v) v)
            (λ l. rw l (by_cases (valid_notes (geometry_of v) v) (λ w. absurd (ne (rw (l, w) at k))) (λ w. rw w (rw (l, w) at k))))
            (λ l. rw l (rw l at k)))) ne

        module _ (found : Found) (clean : 0 ≡ scan_refusal v) (found-is : found ≡ found_of v page) where
          log : valid_log (geometry_of v) v ≡ true
          unfolding scan_rows
          log =
              by_cases (valid_log (geometry_of v) v) (λ t. t)
              (λ t. let z : ◌≡◌ {A = ℕ} 0 17 = rw (valid, t) at clean in absurd (omega arith))

          notes : valid_notes (geometry_of v) v ≡ true
          unfolding scan_rows
          notes =
              by_cases (valid_notes (geometry_of v) v) (λ t. t)
              (λ t. let z : ◌≡◌ {A = ℕ} 0 18 = rw (valid, log, t) at clean in absurd (omega arith))

          pub ready : Ready u.geometry found.first found.entry page
          ready =
              let w = within-bounds (geometry_of v).pages page inside in
              rw (geometry-is, found-is) (scanned-ready v (geometry_of v) valid refl log page notes w.0 w.1)

          pub whole : Whole u.geometry page (view_of u.geometry u.bytes.now found.first found.entry page)
          whole =
              let w = within-bounds (geometry_of v).pages page inside in
              rw (geometry-is, u-is, found-is) (scanned-whole v (geometry_of v) page valid refl log notes w.0)

          -- what is made of the volume and the entry at hand is made of the bytes
          same : {A : Type 0} (h : Geometry → List ℕ → Found → A) → h u.geometry u.bytes.now found ≡ h (geometry_of v) v (found_of v page)
          same h =
              ap (λ (g : Geometry). h g u.bytes.now found) geometry-is ∙ ap (λ (x : List ℕ). h (geometry_of v) x found) u-is
              ∙ ap (h (geometry_of v) v) found-is

          pub blank : found.entry.durable ≡ 0 → Left (Refused 7) b
          unfolding inspect_rows
          blank z =
              let d : (entry_of (index_of (geometry_of v) v) page).durable ≡ 0 = sym (same (λ g x q. q.entry.durable)) ∙ z in
              refuses 7 (rw (valid, eq-eqb (length b) 256 size, inside, log, notes, eq-eqb _ 0 d)) (eqb-false 7 0 refl)

          module _ (some : found.entry.durable ≡ 0 → ⊥) (c : Walked)
              (c-is : c ≡ walked_of u.geometry page (view_of u.geometry u.bytes.now found.first found.entry page)) (t : Bool)
              (t-is : t ≡ is_below c.stop) where
            decides : first_of (inspect_rows v page (length b)) ≡ cond t 23 0
            unfolding inspect_rows walked_of
            decides =
                let d : (entry_of (index_of (geometry_of v) v) page).durable ≡ 0 → ⊥ = λ z. some (same (λ g x q. q.entry.durable) ∙ z) in
                let q = t-is ∙ ap (λ (x : Walked). is_below x.stop) c-is
                ∙ same (λ g x q. is_below (walk_of g page (view_of g x q.first q.entry page)).stop) in
                rw (valid, eq-eqb (length b) 256 size, inside, log, notes, ne_eqb _ 0 d, q)

            -- the walk goes below the run
            pub below : t ≡ true → Left (Refused 23) b
            below h = refuses 23 (sym (decides ∙ rw h)) (eqb-false 23 0 refl)

            -- it does not
            pub done : t ≡ false → (r : Repair) (x y : List ℕ)
                → r ≡ repair_of u.geometry page (view_of u.geometry u.bytes.now found.first found.entry page)
                → x ≡ rebuilt u.geometry page (view_of u.geometry u.bytes.now found.first found.entry page) → y ≡ seal_image u.geometry x
                → Left (Repaired r) y
            unfolding inspect_of
            done h r x y er ex ey =
                rw (eq-eqb (first_of (inspect_rows v page (length b))) 0 (decides ∙ rw h)) (
                  ap Repaired (er ∙ same (λ g z q. repair_of g page (view_of g z q.first q.entry page))),
                  ey ∙ ap (seal_image u.geometry) ex ∙ same (λ g z q. seal_image g (rebuilt g page (view_of g z q.first q.entry page))),
                )
