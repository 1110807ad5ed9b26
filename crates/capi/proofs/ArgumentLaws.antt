-- Begin and Change for C: what the code makes of their numbers.
use mathlib.Core.Path.{◌≡◌, refl, sym, ◌∙◌}
use mathlib.Core.Bool.{Bool, true, false, cond, ◌&&◌, ◌||◌, not}
use mathlib.Core.List.{List, [], ◌∷◌}
use Prim.Native.Nat.{ℕ, ◌≤◌, ◌<◌, ◌-◌}
use native.Mathlib.Omega.{arith}
use lib.Dec.{eqb, leb}
use lib.ListN.{length, get_or}
use borrow.Author.Tests.{eq-eqb, ne_eqb, eqb-true, leb-true, le-leb, lt-leb}
use Rattle.laws.proofs.Tables.{by_cases, all-at, cond_same}
use Rattle.volume.proofs.Readings.{unknown-read}
use Rattle.laws.proofs.Tabulated.{tabulate-length, tabulate-at}
use Rattle.model.specs.Tables.{Row, first_of, within}
use Rattle.model.specs.Geometry.{known_magic, geometry_of, valid_volume}
use Rattle.model.specs.State.{frame_count}
use Rattle.model.specs.Refusals.{state_rows}
use Rattle.model.specs.Change.{change_fits}
use Rattle.model.specs.Change as rule
use Rattle.model.specs.Calls.{no_payload}
use Rattle.model.specs.declared.{command.Command.TheVariants.Begin, geometry.Geometry.Geometry, state.State.State}
use Rattle.model.specs.declared.change.Change.{Change}
use Rattle.model.specs.declared.change.Change.TheVariants.{Put, Slide}
use Rattle.model.specs.declared.change.Change.TheVariants.{Format}
use Rattle.face.specs.Numbers.{state_of, fits}
use Rattle.face.specs.Face.{Face, faced, face_of}
use Rattle.face.specs.Arguments.{misfilled_of, begin_face, unfit_change, format_held, bytes_held, change_from, payload_from}
use Rattle.state.proofs.Fits.{refusal-first, refusal-last}
use Rattle.face_step.proofs.FaceLaws.{both, not-both}
use Rattle.model.specs.declared.command.Command.TheVariants.{Change as ChangeCall}

-- ---- Change

pub record Bytes (at width : ℕ) : Type 0 where
  pub offset : at ≤ 65535
  pub size : width ≤ 44

module _ (kind offset size fill n : ℕ) where
  pub format-fill : format_held offset size fill n ≡ true → fill ≤ 255
  format-fill h = leb-true fill 255 (all-at (eqb size 0 ∷ eqb offset 0 ∷ leb fill 255 ∷ leb n 44 ∷ []) 2 h)

  pub bytes-bounds : bytes_held offset size fill n ≡ true → Bytes offset size
  bytes-bounds h =
      let a = all-at (leb size n ∷ leb offset 65535 ∷ eqb fill 0 ∷ leb n 44 ∷ []) in
      record {
        offset = leb-true offset 65535 (a 1 h);
        size = omega (arith, leb-true size n (a 0 h), leb-true n 44 (a 3 h));
      }

  module _ (e : kind ≡ 1) where
    pub from-format : format_held offset size fill n ≡ true → Format fill ≡ change_from kind offset size fill n
    unfolding change_from
    from-format h = rw (eq-eqb kind 1 e, h)

    pub from-no-format : format_held offset size fill n ≡ false → unfit_change ≡ change_from kind offset size fill n
    unfolding change_from
    from-no-format h = rw (eq-eqb kind 1 e, h)

  module _ (ne : kind ≡ 1 → ⊥) where
    pub from-unheld : bytes_held offset size fill n ≡ false → unfit_change ≡ change_from kind offset size fill n
    unfolding change_from
    from-unheld h =
        rw (ne_eqb kind 1 ne, h)
        (by_cases (eqb kind 2) (λ t. rw t) (λ t. by_cases (eqb kind 3) (λ u. rw (t, u)) (λ u. rw (t, u))))

    module _ (h : bytes_held offset size fill n ≡ true) where
      pub from-put : kind ≡ 2 → Put offset size ≡ change_from kind offset size fill n
      unfolding change_from
      from-put e = rw (ne_eqb kind 1 ne, h, eq-eqb kind 2 e)

      pub from-slide : (kind ≡ 2 → ⊥) → kind ≡ 3 → Slide offset size ≡ change_from kind offset size fill n
      unfolding change_from
      from-slide n2 e = rw (ne_eqb kind 1 ne, h, ne_eqb kind 2 n2, eq-eqb kind 3 e)

      pub from-none : (kind ≡ 2 → ⊥) → (kind ≡ 3 → ⊥) → unfit_change ≡ change_from kind offset size fill n
      unfolding change_from
      from-none n2 n3 = rw (ne_eqb kind 1 ne, ne_eqb kind 2 n2, ne_eqb kind 3 n3)

-- ---- the payload

pub payload-long : (xs : List ℕ) → length (payload_from xs) ≡ 44
unfolding payload_from
payload-long xs = tabulate-length 44 (λ i. get_or xs i 0)

pub payload-at : (xs : List ℕ) (i : ℕ) → i < 44 → get_or (payload_from xs) i 0 ≡ get_or xs i 0
unfolding payload_from
payload-at xs i h = tabulate-at 44 i (λ j. get_or xs j 0) 0 h

-- ---- Begin

abbrev own_rows : ℕ → ℕ → Geometry → ℕ → List Row
own_rows page frame g count = (not (within g.pages page), 3) ∷ (not (within count frame), 4) ∷ (true, 6) ∷ []

-- a heading that is not known: row 1, whatever follows it
pub misfilled-unknown : (page frame : ℕ) (v m xs report : List ℕ) (b : Bool) → b ≡ known_magic v → b ≡ false
    → 1 ≡ misfilled_of page frame v m xs report
unfolding misfilled_of
misfilled-unknown page frame v m xs report b eb t =
    rw (unknown-read v (sym eb ∙ t)) (sym (cond_same (fits xs && eqb (length report) 5) 1))

module _ (page frame : ℕ) (v m xs report : List ℕ) (k : ℕ) (ek : length report ≡ k) (b : Bool) (eb : b ≡ fits xs) where
  pub misfilled-unfit : (not b || not (eqb k 5)) ≡ true → (w : Bool) (n : ℕ) → w ≡ valid_volume v → n ≡ cond (not w) 1 2
      → n ≡ misfilled_of page frame v m xs report
  unfolding misfilled_of
  misfilled-unfit t w n ew en =
      let q : (fits xs && eqb (length report) 5) ≡ false = rw (← eb, ek) (not-both b (eqb k 5) t) in
      rw (q, en, ew)

  module _ (t : (not b || not (eqb k 5)) ≡ false) (size : ℕ) (em : length m ≡ size) (s : State) (es : s ≡ state_of xs) (no : ℕ)
      (eno : (y : List ℕ) → length y ≡ size → no ≡ first_of (state_rows v y s [])) where
    fitting : (fits xs && eqb (length report) 5) ≡ true
    fitting = rw (← eb, ek) (both b (eqb k 5) t)

    pub misfilled-first : (no ≡ 0 → ⊥) → no ≡ misfilled_of page frame v m xs report
    unfolding misfilled_of
    misfilled-first ne = rw (fitting, ← es)
        (refusal-first v m s (own_rows page frame (geometry_of v) (frame_count (length m))) no (eno m em) ne)

    pub misfilled-last : no ≡ 0 → (g : Geometry) → g ≡ geometry_of v → (count : ℕ) → count ≡ frame_count size → (x n : ℕ)
        → x ≡ cond (not (within count frame)) 4 6 → n ≡ cond (not (within g.pages page)) 3 x → n ≡ misfilled_of page frame v m xs report
    unfolding misfilled_of
    misfilled-last z g eg count ec x n ex en =
        let d : count ≡ frame_count (length m) = rw em ec in
        rw (fitting, ← es)
        (refusal-last v m s (own_rows page frame (geometry_of v) (frame_count (length m))) no n (eno m em) z (en ∙ rw (ex, eg, d)))

module _ (page frame fill : ℕ) (v m xs report : List ℕ) where
  pub begin-few : fill ≤ 255 → (n : ℕ) (xs' report' m' v' : List ℕ)
      → faced n xs' report' m' v' ≡ face_of (Begin page frame fill, no_payload) v m xs report
      → faced n xs' report' m' v' ≡ begin_face page frame fill v m xs report
  unfolding begin_face
  begin-few h n xs' report' m' v' e = rw (le-leb fill 255 h) e

  pub begin-many : 255 < fill → (n : ℕ) → n ≡ misfilled_of page frame v m xs report
      → faced n xs report m v ≡ begin_face page frame fill v m xs report
  unfolding begin_face
  begin-many h n e = rw (lt-leb fill 255 h, e)

pub change-named : (page : ℕ) (c d : Change) (p q v m xs report : List ℕ) (x : Face) → c ≡ d → p ≡ q
    → x ≡ face_of (ChangeCall page c, p) v m xs report → x ≡ face_of (ChangeCall page d, q) v m xs report
change-named page c d p q v m xs report x ec ep e = e ∙ rw (ec, ep)

-- ---- when Change answers 6: exactly where the numbers break document 01's rule, or the bytes beside them are too few or too many

format-case : (a b c d : Bool) (fill : ℕ)
    → rule.fits (cond (a && (b && (c && d))) (Format fill) unfit_change) ≡ ((a && b) && (c && (d && true)))
unfolding change_fits
format-case true true true true fill = refl
format-case true true true false fill = refl
format-case true true false d fill = refl
format-case true false c d fill = refl
format-case false b c d fill = refl

never : (x r d : Bool) → (x && (r && (d && false))) ≡ false
never true true true = refl
never true true false = refl
never true false d = refl
never false r d = refl

-- a put and a slide: p and q are the rule's tests of length and offset, r that of fill
held-case : (s o f d p q r : Bool) → (q ≡ true → o ≡ true) → (f ≡ true → r ≡ true)
    → cond (s && (o && (f && d))) (p && (q && true)) false ≡ ((p && (q && f)) && (r && (d && s)))
held-case true true true true true true r ho hr = rw (hr refl)
held-case true true true true true false r ho hr = refl
held-case true true true true false q r ho hr = refl
held-case true true true false true true r ho hr = rw (hr refl)
held-case true true true false true false r ho hr = refl
held-case true true true false false q r ho hr = refl
held-case true true false d true true r ho hr = refl
held-case true true false d true false r ho hr = refl
held-case true true false d false q r ho hr = refl
held-case true false f d p true r ho hr = let z : ◌≡◌ {A = ℕ} 0 1 = cc (ho refl) in absurd (omega arith)
held-case true false f d true false r ho hr = refl
held-case true false f d false false r ho hr = refl
held-case false o f d p q r ho hr = sym (never (p && (q && f)) r d)

put-held : (b : Bool) (offset size : ℕ)
    → rule.fits (cond b (Put offset size) unfit_change) ≡ cond b (within 44 size && (leb offset (244 - size) && true)) false
unfolding change_fits
put-held true offset size = refl
put-held false offset size = refl

slide-held : (b : Bool) (offset size : ℕ)
    → rule.fits (cond b (Slide offset size) unfit_change) ≡ cond b (within 44 size && (leb offset (244 - size) && true)) false
unfolding change_fits
slide-held true offset size = refl
slide-held false offset size = refl

pub change-judged : (kind offset size fill n : ℕ)
    → rule.fits (change_from kind offset size fill n)
    ≡ (change_fits kind size offset fill && (leb fill 255 && (leb n 44 && (eqb kind 1 || leb size n))))
unfolding change_from change_fits
change-judged kind offset size fill n =
    let h = held-case (leb size n) (leb offset 65535) (eqb fill 0) (leb n 44) (within 44 size) (leb offset (244 - size)) (leb fill 255)
    (λ q. let z = leb-true offset (244 - size) q in le-leb offset 65535 (omega arith))
    (λ f. let z = eqb-true fill 0 f in le-leb fill 255 (omega arith)) in
    by_cases (eqb kind 1) (λ t. rw t (format-case (eqb size 0) (eqb offset 0) (leb fill 255) (leb n 44) fill))
    (λ t. by_cases (eqb kind 2) (λ u. rw (t, u) (put-held (bytes_held offset size fill n) offset size ∙ h))
    (λ u. by_cases (eqb kind 3) (λ w. rw (t, u, w) (slide-held (bytes_held offset size fill n) offset size ∙ h))
    (λ w. rw (t, u, w))))
