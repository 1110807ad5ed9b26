-- What Inspect shows of a volume that holds a list of changes and notes: 7 for a blank page, else the page's number and replay, or 23 where
-- record 1 has left and the proviso fails.
use mathlib.Core.Path.{◌≡◌, refl, sym, ap, ◌∙◌}
use mathlib.Core.Logic.{◌≢◌, ◌⊎◌, inl, inr, ◌↔◌}
use mathlib.Core.Bool.{Bool, true, false, cond}
use mathlib.Core.List.{List, ◌++◌}
use Prim.Native.Nat.{ℕ, zero, suc, ◌≤◌}
use native.Mathlib.Omega.{arith}
use native.Mathlib.Decide.{ℕ_discrete}
use lib.ListN.{length}
use lib.Dec.{eqb}
use borrow.Author.Tests.{eq-eqb, ne_eqb}
use Rattle.laws.proofs.Tables.{by_cases, true-not-false, within-holds}
use Rattle.model.specs.Tables.{first_of}
use Rattle.model.specs.Bytes.{bytes_of, part}
use Rattle.model.specs.Checksum.{seal_image}
use Rattle.model.specs.Index.{entry_of}
use Rattle.model.specs.Scan.{first_held, gone, index_of}
use Rattle.model.specs.Claim.{start_stands}
use Rattle.model.specs.Repair.{view_of, walk_of, is_below, rebuilt, rebuilt_body}
use Rattle.model.specs.Refusals.{inspect_rows}
use Rattle.model.specs.Outcome.{refusal_of}
use Rattle.model.specs.Restart.{inspect_of}
use Rattle.model.specs.AbstractLog.{Logged}
use Rattle.model.specs.declared.{geometry.Geometry.Geometry, item.Note.Note}
use Rattle.history.proofs.Logs.{last_of, body_of, replay_at, last-le, last-page, replay-last}
use Rattle.history.proofs.Marks.{mark_at}
use Rattle.history.proofs.Entries.{entry_from}
use Rattle.history.proofs.Leaf.{image-shown}
use Rattle.history.proofs.Records.{length-replay}
use Rattle.history.proofs.Sections.{Sized, volume-sized, most-high}
use Rattle.history.proofs.Disk.{Holds, Noted}
use Rattle.history.proofs.NoteIndex.{valid-notes, index_is}
use Rattle.history.proofs.LogScan.{first, durable-count, valid-log}
use Rattle.history.proofs.Views.{view-body, view-whole, view-granted, Unserved, exact_below, below-exact}

module _ {C : Type 0} (g : Geometry) (v : List ℕ) (k : List Logged) (h : Holds g v k) (ns : List Note) (o : Noted C g v k ns) (p : ℕ)
    (lo : 1 ≤ p) (hi : p ≤ g.pages) where
  sz : Sized g
  sz = volume-sized g v h.vol

  entry-is : entry_of (index_of g v) p ≡ entry_from (last_of p k) (last_of p k) (mark_at p ns (length ns))
  entry-is = (index_is g v k h ns o).entry p lo (omega (arith, sz.p-high))

  abbrev below : Bool
  below = is_below (walk_of g p
      (view_of g v (first_held g v (length k)) (entry_from (last_of p k) (last_of p k) (mark_at p ns (length ns))) p)).stop

  -- no row but 7 and 23 can hold
  rows_are : (size : ℕ) → size ≡ 256 → first_of (inspect_rows v p size) ≡ cond (eqb (last_of p k) 0) 7 (cond below 23 0)
  unfolding inspect_rows
  rows_are size e =
      rw (
        h.vol.geo,
        h.vol.ok,
        eq-eqb size 256 e,
        within-holds g.pages p lo hi,
        valid-log g v k h ns o,
        valid-notes g v k h ns o,
        entry-is,
        durable-count g v k h ns o,
      )

  -- the proviso, and that record 1 has left
  abbrev Stand : Type 0
  Stand = start_stands g v (entry_of (index_of g v) p) p ≡ true

  -- the walk of a page with a durable change goes below the run only where record 1 has left and the proviso fails
  served : last_of p k ≢ 0 → (gone g v ≡ true → Stand) → below ≡ false
  served nz f = go (last_of p k) refl
    where
      go : (n : ℕ) → last_of p k ≡ n → below ≡ false
      go zero q = absurd (nz q)
      go (suc j) q =
          let b : suc j ≤ length k = omega (arith, last-le p k (length k)) in
          let pg = last-page p k (length k) j q in
          rw q (by_cases (gone g v)
          (λ t. view-granted g v k h ns o (suc j) j p lo hi b pg (rw entry-is at (f t)) q)
          (λ t. view-whole g v k h ns o (suc j) j p lo hi b pg t))

  module _ (buffer : List ℕ) (e : length buffer ≡ 256) where
    abbrev answered : ℕ
    answered = refusal_of (inspect_of v p buffer).answer

    abbrev Shows : Type 0
    Shows = (refusal_of (inspect_of v p buffer).answer ≡ 0)
        × (part (inspect_of v p buffer).buffer 4 248 ≡ bytes_of 4 (last_of p k) ++ body_of p k)

    pub inspect-blank : last_of p k ≡ 0 → refusal_of (inspect_of v p buffer).answer ≡ 7
    unfolding inspect_of
    inspect-blank z = rw (rows_are (length buffer) e, eq-eqb (last_of p k) 0 z)

    pub inspect-above : last_of p k ≢ 0 → below ≡ false → Shows
    unfolding inspect_of
    inspect-above nz up = rw (rows_are (length buffer) e, ne_eqb (last_of p k) 0 nz, up)
        (refl, rw (h.vol.geo, entry-is, durable-count g v k h ns o) (go (last_of p k) refl))
      where
        go : (n : ℕ) → last_of p k ≡ n
            → part (seal_image g (rebuilt g p (view_of g v (first_held g v (length k))
            (entry_from (last_of p k) (last_of p k) (mark_at p ns (length ns))) p))) 4 248 ≡ bytes_of 4 (last_of p k) ++ body_of p k
        go zero q = absurd (nz q)
        go (suc j) q =
            let b : suc j ≤ length k = omega (arith, last-le p k (length k)) in
            let vb = view-body g v k h ns o (suc j) j p lo hi b (last-page p k (length k) j q) (rw q at up) in
            let bd : replay_at p k (suc j) ≡ body_of p k = sym (replay-last p k (length k) ∙ ap (replay_at p k) q) in
            let e₁ : rebuilt_body g p
            (view_of g v (first_held g v (length k)) (entry_from (suc j) (suc j) (mark_at p ns (length ns))) p) ≡ body_of p k = vb ∙ bd in
            rw q (rw e₁ (image-shown g p (suc j) (body_of p k) (omega (arith, sz.p-high)) (omega (arith, h.room, most-high g sz))
            (length-replay g.pages p k (length k) (omega arith) h.fair)))

    inspect-low : last_of p k ≢ 0 → below ≡ true → refusal_of (inspect_of v p buffer).answer ≡ 23
    unfolding inspect_of
    inspect-low nz t = rw (rows_are (length buffer) e, ne_eqb (last_of p k) 0 nz, t)

    pub inspect-durable : last_of p k ≢ 0 → Shows ⊎ (refusal_of (inspect_of v p buffer).answer ≡ 23)
    inspect-durable nz = by_cases below (λ t. inr (inspect-low nz t)) (λ t. inl (inspect-above nz t))

    pub inspect-granted : last_of p k ≢ 0 → (gone g v ≡ true → Stand) → Shows
    inspect-granted nz f = inspect-above nz (served nz f)

    -- 23 exactly where the page cannot be rebuilt
    pub inspect-exact : last_of p k ≢ 0
        → (refusal_of (inspect_of v p buffer).answer ≡ 23) ↔ Unserved g v k (entry_of (index_of g v) p) p (first g v k h ns o)
    inspect-exact nz = go (last_of p k) refl
      where
        go : (n : ℕ) → last_of p k ≡ n
            → (refusal_of (inspect_of v p buffer).answer ≡ 23) ↔ Unserved g v k (entry_of (index_of g v) p) p (first g v k h ns o)
        go zero q = absurd (nz q)
        go (suc j) q =
            let b : suc j ≤ length k = omega (arith, last-le p k (length k)) in
            let pg = last-page p k (length k) j q in (
              λ z. by_cases below
                  (λ t. rw entry-is (below-exact g v k h ns o (suc j) j p lo hi b pg q (rw q at t)))
                  (λ t. absurd (let s = inspect-above nz t in omega (arith, s.0))),
              λ u. inspect-low nz (rw q (exact_below g v k h ns o (suc j) j p lo hi b pg q (rw entry-is at u))),
            )

    pub inspect-below : refusal_of (inspect_of v p buffer).answer ≡ 23 → (gone g v ≡ true) × (Stand → ⊥)
    inspect-below z = elim (ℕ_discrete (last_of p k) 0) [
      | yes q ↦ absurd (omega (arith, inspect-blank q))
      | no q ↦ (
        by_cases (gone g v) (λ t. t) (λ t. absurd (let s = inspect-granted q (λ u. absurd (true-not-false u t)) in omega (arith, s.0))),
        λ s. let a = inspect-granted q (λ u. s) in omega (arith, a.0),
      )
    ]
