-- A page put into a row of the frame table of a well-formed state: what keeps it well formed.
use mathlib.Core.Path.{◌≡◌, sym, ap, ◌∙◌, subst}
use mathlib.Core.Logic.{◌≢◌}
use mathlib.Core.Bool.{Bool, true, false}
use Prim.Native.Nat.{ℕ, suc, ◌+◌, ◌-◌, ◌≤◌, ◌<◌}
use native.Mathlib.Omega.{arith}
use native.Mathlib.Decide.{ℕ_discrete}
use lib.ListN.{length, get_or, set, length-set}
use lib.Seq.{get_or-set_same, get_or-set_other}
use borrow.Author.Tests.{ltb-true}
use Rattle.laws.proofs.Tables.{by_cases}
use Rattle.laws.proofs.WellFormed.{Formed, holder-finds}
use Rattle.laws.proofs.Frames.{not-held, RowFits, row_fits, fits-row, Numbers, EntryFits, entry-of, entry_past, page-fits, forms}
use Rattle.model.specs.Geometry.{most, most_notes}
use Rattle.model.specs.Index.{empty_entry, entry_row, entry_of}
use Rattle.model.specs.State.{empty_frame, frame_row, holder, held, last_number, pending_note_fits, frame_fits, page_fits, well_formed}
use Rattle.model.specs.Demand1.{Arrays}
use Rattle.model.specs.declared.{geometry.Geometry.Geometry, state.Entry.Entry, state.Frame.Frame, state.State.State}

-- ---- a page put into a row

-- the page that is put, where it is one: it is in range and in no other row, and its entry is in order
pub record Own (g : Geometry) (frames : ℕ) (s s' : State) (j p : ℕ) : Type 0 where
  pub high : p ≤ g.pages
  pub inside : j < frames
  pub alone : (i : ℕ) → i < 16 → i ≢ j → (frame_row s i).page ≢ p
  pub some : (entry_of s'.index p).last ≢ 0
  pub numbers : Numbers g s' (entry_of s'.index p)

-- a page's last number is durable
abbrev pub Durable : State → ℕ → Type 0
Durable s p = (entry_of s.index p).last ≡ (entry_of s.index p).durable

-- the state after: row j has page p, and no entry but page p's is another
pub record Put (g : Geometry) (frames : ℕ) (s s' : State) (j p : ℕ) (t : Bool) : Type 0 where
  pub place : j < 16
  pub rows : s'.frames ≡ set s.frames j (record { page = p; dirty = t })
  pub count : s'.durable ≡ s.durable
  pub more : last_number s ≤ last_number s'
  pub entries : (q : ℕ) → 1 ≤ q → q ≢ p → entry_of s'.index q ≡ entry_of s.index q
  pub own : p ≢ 0 → Own g frames s s' j p
  pub idle : p ≡ 0 → t ≡ false
  pub leaves : (frame_row s j).page ≢ 0 → (frame_row s j).page ≢ p → Durable s (frame_row s j).page

module _ (g : Geometry) (frames : ℕ) (s : State) (a : Arrays s) (w : Formed g frames s) (p64 : g.pages ≤ 64) (s' : State) (j p : ℕ)
    (t : Bool) (u : Put g frames s s' j p t) where
  new : Frame
  new = record { page = p; dirty = t }

  size : length s'.frames ≡ 16
  unfolding new
  size = rw u.rows (length-set s.frames j new ∙ a.frames)

  same : frame_row s' j ≡ new
  unfolding new
  same = rw u.rows (get_or-set_same s.frames j new empty_frame (omega (arith, a.frames, u.place)))

  same-page : (frame_row s' j).page ≡ p
  unfolding new
  same-page = ap (λ (f : Frame). f.page) same

  other : (i : ℕ) → i ≢ j → frame_row s' i ≡ frame_row s i
  unfolding new
  other i ne = rw u.rows (get_or-set_other s.frames j i new empty_frame ne)

  row : (i : ℕ) → i < 16 → RowFits g frames s i
  row i l = row_fits g frames s i (w.table i l)

  -- a row but j
  row_other : (i : ℕ) → i < 16 → i ≢ j → RowFits g frames s' i
  row_other i l ne =
      let r = row i l in
      record {
        high = rw (other i ne) r.high;
        once = λ nz k b. elim (ℕ_discrete k j) [
          | yes e ↦ λ q. absurd (nz (sym q ∙ (rw e same-page ∙ zero-page (rw (e, same-page, other i ne) at q))))
          | no e ↦ rw (other k e, other i ne) (r.once (rw (other i ne) at nz) k b)
        ];
        some = λ nz. rw (other i ne) (some-other (rw (other i ne) at nz));
        idle = λ z. rw (other i ne) (r.idle (rw (other i ne) at z));
        inside = λ nz. r.inside (rw (other i ne) at nz);
      }
    where
      -- the page that is put is in no other row
      zero-page : p ≡ (frame_row s i).page → p ≡ 0
      zero-page q = elim (ℕ_discrete p 0) [ yes z ↦ z | no nz ↦ absurd ((u.own nz).alone i l ne (sym q)) ]

      some-other : (frame_row s i).page ≢ 0 → (entry_of s'.index (frame_row s i).page).last ≢ 0
      some-other nz z = (row i l).some nz
          (sym (ap (λ (e : Entry). e.last) (u.entries (frame_row s i).page (omega arith) (λ q. nz (q ∙ zero-page (sym q))))) ∙ z)

  row_new : RowFits g frames s' j
  unfolding new
  row_new =
      record {
        high = rw same high;
        once = λ nz k b q. (u.own (rw same at nz)).alone k (omega (arith, u.place)) (λ e. omega arith)
            (rw (other k (λ e. omega arith), same) at q);
        some = λ nz. rw same (u.own (rw same at nz)).some;
        idle = λ z. rw same (u.idle (rw same at z));
        inside = λ nz. (u.own (rw same at nz)).inside;
      }
    where
      high : p ≤ g.pages
      high = elim (ℕ_discrete p 0) [ yes z ↦ omega arith | no nz ↦ (u.own nz).high ]

  table : (i : ℕ) → i < 16 → frame_fits g frames s' i ≡ true
  table i l =
      fits-row g frames s' i (elim (ℕ_discrete i j) [ yes e ↦ subst (RowFits g frames s') (sym e) row_new | no e ↦ row_other i l e ])

  -- ---- the entries

  numbers-same : (q : ℕ) → 1 ≤ q → q ≤ g.pages → q ≢ p → Numbers g s' (entry_of s'.index q)
  numbers-same q lo hi ne =
      let n = (entry-of g frames s w p64 q lo hi).numbers in
      rw (u.entries q lo ne) (record {
        last = omega (arith, n.last, u.more);
        durable = n.durable;
        count = omega (arith, n.count, u.count);
        written = n.written;
        backup = n.backup;
        slot = n.slot;
      })

  -- a page that is in no frame now
  away : (q : ℕ) → 1 ≤ q → q ≤ g.pages → q ≢ p → held s' q ≡ false → Durable s q
  away q lo hi ne f = by_cases (held s q)
      (λ h.
      let r = holder-finds 0 q s.frames (lt h) in
      let i = holder s q - 1 in
      let l : i < 16 = omega (arith, r.low, r.high, a.frames) in
      elim (ℕ_discrete i j) [
        | yes e ↦
            let pg : (frame_row s j).page ≡ q = rw e at r.page in
            rw pg at (u.leaves (λ z. omega arith) (λ z. ne (sym pg ∙ z)))
        | no e ↦ absurd (not-held s' q f i (omega (arith, size)) (rw (other i e) r.page))
      ])
      (λ h. (entry-of g frames s w p64 q lo hi).away h)
    where
      lt : held s q ≡ true → 0 < holder s q
      lt h = ltb-true 0 (holder s q) h

  entry : (q : ℕ) → 1 ≤ q → q ≤ g.pages → EntryFits g s' q (entry_of s'.index q)
  entry q lo hi = elim (ℕ_discrete q p) [
    | yes e ↦
        rw e (record {
          numbers = (u.own (λ z. omega arith)).numbers;
          away = λ f. absurd (not-held s' p f j (omega (arith, size, u.place)) same-page);
        })
    | no e ↦ record { numbers = numbers-same q lo hi e; away = λ f. rw (u.entries q lo e) (away q lo hi e f) }
  ]

  row-entry : (x : State) (i : ℕ) → entry_row x.index i ≡ entry_of x.index (suc i)
  row-entry x i = ap (λ (k : ℕ). get_or x.index k empty_entry) (let e : i ≡ suc i - 1 = omega arith in e)

  page : (i : ℕ) → i < 64 → page_fits g s' i ≡ true
  page i l =
      page-fits g s' i (λ b. rw (row-entry s' i) (entry (suc i) (omega arith) b))
      (λ b. rw (row-entry s' i ∙ (u.entries (suc i) (omega arith) (past b) ∙ sym (row-entry s i))) (entry_past g frames s w i l b))
    where
      past : g.pages ≤ i → suc i ≢ p
      past b e = let nz : p ≢ 0 = λ z. omega arith in omega (arith, (u.own nz).high)

  pub put-formed : s'.durable + s'.pending ≤ most g → s'.pending ≤ 16 → s'.notes ≤ most_notes g
      → pending_note_fits g s'.notes s'.durable s'.note ≡ true → well_formed g frames s' ≡ true
  put-formed room few notes fit =
      forms g frames s' (record { room = room; few = few; notes = notes; note = fit; table = table; pages = page })
