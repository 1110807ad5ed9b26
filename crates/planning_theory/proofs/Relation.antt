-- The simulation relation: the model's frames beside the store's, the page images on disk, the noted backups and the rows of figures.
use mathlib.Core.Path.{◌≡◌, refl, sym, ap, ◌∙◌, subst}
use mathlib.Core.Logic.{◌≢◌, ◌⊎◌, inl, inr, ⊎_elim}
use mathlib.Core.Bool.{Bool, true, false}
use mathlib.Core.List.{List, [], ◌∷◌, ◌++◌, append-nil}
use Prim.Native.Nat.{ℕ, zero, suc, ◌+◌, ◌-◌, ◌%◌, ◌≤◌, ◌<◌}
use native.Mathlib.Omega.{arith}
use native.Mathlib.Decide.{ℕ_discrete, dec_lt}
use lib.ListN.{length, set, length-set}
use lib.Seq.{get_or-set_same, get_or-set_other, set_out}
use borrow.Author.Tests.{eq-eqb, ne_eqb}
use Rattle.model.specs.Geometry.{page_at, item}
use Rattle.model.specs.Item.{image_lsn, valid_image}
use Rattle.model.specs.Index.{empty_entry, entry_of, set_entry}
use Rattle.model.specs.State.{frame_row, blank}
use Rattle.model.specs.Outcome.{StoredItem}
use Rattle.model.specs.AbstractLog.{Logged}
use Rattle.planning.specs.Rehearsal.{access_of, page_in, unused, no_figures, page_row, set_row}
use Rattle.planning.specs.RehearsalRun.{last_use}
use Rattle.model.specs.declared.{geometry.Geometry.Geometry, state.Entry.Entry, state.Frame.Frame}
use Rattle.model.specs.declared.{state.State.State}
use Rattle.planning.specs.declared.rehearsal.Victim.{Victim}
use Rattle.planning.specs.declared.rehearsal.Victim.TheVariants.{Written, Released}
use Rattle.planning.specs.declared.rehearsal.Settings.{Settings}
use Rattle.planning.specs.declared.rehearsal.FrameUse.{FrameUse}
use Rattle.planning.specs.declared.rehearsal.Figures.{Figures}
use Rattle.history.proofs.Logs.{last_at, last_of}
use Rattle.history.proofs.Records.{last-past}
use Rattle.history.proofs.Context.{Ctx}
use Rattle.planning_theory.proofs.Counts.{count_at, count_of, none-count, count_none, count-new, count-other}
use Rattle.planning_theory.proofs.Chain.{Begun}
use Rattle.planning_theory.proofs.Searches.{Alike}
use Rattle.model.specs.Types.{None}

-- ---- the relation

-- page p's own image is valid with number n
abbrev pub Current : Geometry → List ℕ → ℕ → ℕ → Type 0
Current g v p n = (valid_image g p (item g v (page_at p)) ≡ true) × (image_lsn (item g v (page_at p)) ≡ n)

-- page p is dirty in a row other than one
pub record DirtyIn (s : State) (p skip : ℕ) : Type 0 where
  pub row : ℕ
  pub below : row < 16
  pub other : row ≢ skip
  pub page-is : (frame_row s row).page ≡ p
  pub dirty-is : (frame_row s row).dirty ≡ true

-- where victims are written, a page is dirty in a frame or its own image is current; where they are let go, no own image is valid and every
-- page in a frame is dirty
abbrev pub OnDisk : Victim → Geometry → List ℕ → State → List Logged → ℕ → ℕ → Type 0
OnDisk Written g v s k skip but = (p : ℕ) → 1 ≤ p → p ≤ g.pages → p ≢ but → last_of p k ≢ 0 → DirtyIn s p skip ⊎ Current g v p (last_of p k)
OnDisk Released g v s k skip but =
    ((p : ℕ) → 1 ≤ p → p ≤ g.pages → valid_image g p (item g v (page_at p)) ≡ false)
    × ((j : ℕ) → j < 16 → j ≢ skip → (frame_row s j).page ≢ 0 → (frame_row s j).dirty ≡ true)

-- of the page in the row that is left out, dirty or not
abbrev pub Mine : Victim → Geometry → List ℕ → List Logged → ℕ → Bool → Type 0
Mine Written g v k p d = (d ≡ true) ⊎ Current g v p (last_of p k)
Mine Released g v k p d = d ≡ true

-- all but a row (16: none) and a page (0: none)
pub record Sim (t : Settings) (events : List ℕ) (ms : List FrameUse) (g : Geometry) (v : List ℕ) (s : State) (k : List Logged)
    (skip but : ℕ) : Type 0 where
  pub frames : Alike events ms s skip
  pub inside : (j : ℕ) → j < 16 → t.frames ≤ j → (frame_row s j).page ≡ 0
  pub begun : Begun k
  pub disk : OnDisk t.victim g v s k skip but

-- a page's noted backup is its last change that is a multiple of k
abbrev pub BackedAt : Settings → State → List Logged → ℕ → Type 0
BackedAt t s k p = count_at p k (entry_of s.index p).backup + count_of p k % t.every ≡ count_of p k

abbrev pub Backups : Settings → Geometry → State → List Logged → Type 0
Backups t g s k = (p : ℕ) → 1 ≤ p → p ≤ g.pages → BackedAt t s k p

-- page p has come into row f, or was found there
pub record Arrived (t : Settings) (events : List ℕ) (ms : List FrameUse) (g : Geometry) (v : List ℕ) (s : State) (k : List Logged) (f p : ℕ)
    (d : Bool) : Type 0 where
  pub sim : Sim t events ms g v s k f p
  pub backs : Backups t g s k
  pub quiet : s.note ≡ None
  pub row_is : frame_row s f ≡ record { page = p; dirty = d }
  pub alone : (j : ℕ) → j < 16 → j ≢ f → (frame_row s j).page ≢ p
  pub mine : Mine t.victim g v k p d

-- the rows of figures count the records
pub record Rows (fs : List Figures) (k : List Logged) : Type 0 where
  pub size : length fs ≡ 64
  pub records : (p : ℕ) → 1 ≤ p → p ≤ 64 → (page_row fs p).records ≡ count_of p k

-- ---- rows

module _ (fs : List Figures) (p : ℕ) (lo : 1 ≤ p) (hi : p ≤ 64) (size : length fs ≡ 64) where
  pub row_same : (r : Figures) → page_row (set_row fs p r) p ≡ r
  row_same r = get_or-set_same fs (p - 1) r no_figures (omega arith)

  pub row_other : (r : Figures) (q : ℕ) → 1 ≤ q → q ≢ p → page_row (set_row fs p r) q ≡ page_row fs q
  row_other r q one ne = get_or-set_other fs (p - 1) (q - 1) r no_figures (λ z. ne (omega arith))

  set-set : (r u : Figures) → set_row (set_row fs p r) p u ≡ set_row fs p u
  set-set r u = again fs (p - 1)
    where
      again : (xs : List Figures) (i : ℕ) → set (set xs i r) i u ≡ set xs i u
      again [] i = refl
      again (x ∷ xs) zero = refl
      again (x ∷ xs) (suc i) = ap (λ (ys : List Figures). x ∷ ys) (again xs i)

  -- two updates of one row
  pub row-twice : (f h : Figures → Figures)
      → set_row (set_row fs p (f (page_row fs p))) p (h (page_row (set_row fs p (f (page_row fs p))) p)) ≡ set_row fs p (h (f (page_row fs p)))
  row-twice f h = rw (row_same (f (page_row fs p))) (set-set (f (page_row fs p)) (h (f (page_row fs p))))

  pub rows_same : (k : List Logged) (r : Figures) → r.records ≡ (page_row fs p).records → Rows fs k → Rows (set_row fs p r) k
  rows_same k r e x =
      record {
        size = length-set fs (p - 1) r ∙ size;
        records = λ q a b. elim (ℕ_discrete q p) [
          | yes z ↦ rw (z, row_same r) (e ∙ x.records p lo hi)
          | no z ↦ rw (row_other r q a z) (x.records q a b)
        ];
      }

  pub rows_more : (k : List Logged) (c : Logged) → c.page ≡ p → (r : Figures) → r.records ≡ (page_row fs p).records + 1 → Rows fs k
      → Rows (set_row fs p r) (k ++ (c ∷ []))
  rows_more k c cp r e x =
      record {
        size = length-set fs (p - 1) r ∙ size;
        records = λ q a b. elim (ℕ_discrete q p) [
          | yes z ↦ rw (z, row_same r) (let n : count_of p (k ++ (c ∷ [])) ≡ suc (count_of p k) = subst
              (λ (q : ℕ). count_of q (k ++ (c ∷ [])) ≡ suc (count_of q k)) cp (count-new k c) in omega (arith, e, x.records p lo hi))
          | no z ↦ rw (row_other r q a z) (x.records q a b ∙ sym (count-other k c q (λ y. z (y ∙ cp))))
        ];
      }

-- ---- the index

-- an entry that is set with what it had in a column
pub column-same : (f : Entry → ℕ) (index : List Entry) (p : ℕ) (e : Entry) → f e ≡ f (entry_of index p)
    → (q : ℕ) → f (entry_of (set_entry index p e) q) ≡ f (entry_of index q)
column-same f index p e h q = elim (ℕ_discrete (q - 1) (p - 1)) [
  | yes z ↦ elim (dec_lt (p - 1) (length index)) [
    | yes l ↦ rw (z, get_or-set_same index (p - 1) e empty_entry l) h
    | no n ↦ rw (set_out index (p - 1) e (omega arith))
  ]
  | no z ↦ ap f (get_or-set_other index (p - 1) (q - 1) e empty_entry z)
]

pub backup-same : (index : List Entry) (p : ℕ) (e : Entry) → e.backup ≡ (entry_of index p).backup
    → (q : ℕ) → (entry_of (set_entry index p e) q).backup ≡ (entry_of index q).backup
backup-same = column-same (λ (e : Entry). e.backup)

pub backups-same : (t : Settings) (g : Geometry) (s s' : State) (k : List Logged)
    → ((q : ℕ) → (entry_of s'.index q).backup ≡ (entry_of s.index q).backup) → Backups t g s k → Backups t g s' k
backups-same t g s s' k same b p lo hi = rw (same p) (b p lo hi)

-- ---- frames

-- the last use of a page
pub use-now : (e : ℕ) (events : List ℕ) (p : ℕ) → page_in (access_of e) ≡ p → last_use p (e ∷ events) ≡ suc (length events)
unfolding last_use
use-now e events p h = rw (eq-eqb (page_in (access_of e)) p h)

pub use-not : (e : ℕ) (events : List ℕ) (q : ℕ) → page_in (access_of e) ≢ q → last_use q (e ∷ events) ≡ last_use q events
unfolding last_use
use-not e events q h = rw (ne_eqb (page_in (access_of e)) q h)

-- an event of a page that is in no frame
pub alike-idle : (events : List ℕ) (ms : List FrameUse) (s : State) (e : ℕ) → Alike events ms s 16
    → ((j : ℕ) → j < 16 → (frame_row s j).page ≢ page_in (access_of e)) → Alike (e ∷ events) ms s 16
alike-idle events ms s e a away =
    record { size = a.size; each = λ j b n. rw (use-not e events (frame_row s j).page (λ z. away j b (sym z))) (a.each j b n) }

-- the event's page is in row f, and nowhere else
module _ (t : Settings) (events : List ℕ) (ms : List FrameUse) (g : Geometry) (v : List ℕ) (s : State)
    (k : List Logged) (e p f : ℕ) (d : Bool)
    (of-page : page_in (access_of e) ≡ p) (b : f < 16) (row_is : frame_row s f ≡ record { page = p; dirty = d })
    (alone : (j : ℕ) → j < 16 → j ≢ f → (frame_row s j).page ≢ p) where
  pub alike-used : Alike events ms s f → Alike (e ∷ events) (set ms f (record { page = p; used = suc (length events); dirty = d })) s 16
  alike-used a =
      record {
        size = length-set ms f new ∙ a.size;
        each = λ j c n. elim (ℕ_discrete j f) [
          | yes z ↦ rw (z, get_or-set_same ms f new unused (omega (arith, a.size)), row_is, use-now e events p of-page)
          | no z ↦ rw (get_or-set_other ms f j new unused z, use-not e events (frame_row s j).page (λ y. alone j c z (sym y ∙ of-page)))
              (a.each j c z)
        ];
      }
    where
      new : FrameUse
      new = record { page = p; used = suc (length events); dirty = d }

  pub sim-used : Sim t events ms g v s k f p → Mine t.victim g v k p d
      → Sim t (e ∷ events) (set ms f (record { page = p; used = suc (length events); dirty = d })) g v s k 16 0
  sim-used x mine =
      record { frames = alike-used x.frames; inside = x.inside; begun = x.begun; disk = go t.victim x.disk mine }
    where
      far : (j : ℕ) → j < 16 → j ≢ 16
      far j c z = omega arith

      go : (w : Victim) → OnDisk w g v s k f p → Mine w g v k p d → OnDisk w g v s k 16 0
      go Written h mn = λ q lo hi nz some. elim (ℕ_discrete q p) [
        | yes z ↦ ⊎_elim
            (λ y. inl (record {
              row = f;
              below = b;
              other = far f b;
              page-is = ap (λ (r : Frame). r.page) row_is ∙ sym z;
              dirty-is = ap (λ (r : Frame). r.dirty) row_is ∙ y;
            }))
            (λ y. inr (rw z y)) mn
        | no z ↦ ⊎_elim
            (λ y. inl
            (record { row = y.row; below = y.below; other = far y.row y.below; page-is = y.page-is; dirty-is = y.dirty-is }))
            inr (h q lo hi z some)
      ]
      go Released h mn = (h.0, λ j c n nz. elim (ℕ_discrete j f) [ yes z ↦ rw (z, row_is) mn | no z ↦ h.1 j c z nz ])

-- other rows and the page images as they were
pub sim-keep : (t : Settings) (events : List ℕ) (ms : List FrameUse) (g : Geometry) (v v' : List ℕ) (s s' : State) (k : List Logged)
    (f but but' : ℕ) → f < t.frames
    → ((j : ℕ) → j < 16 → j ≢ f → frame_row s' j ≡ frame_row s j)
    → ((q : ℕ) → 1 ≤ q → q ≤ g.pages → item g v' (page_at q) ≡ item g v (page_at q))
    → ((q : ℕ) → q ≢ but' → q ≢ but ⊎ (q ≡ 0)) → Sim t events ms g v s k f but → Sim t events ms g v' s' k f but'
sim-keep t events ms g v v' s s' k f but but' low rows same wide x =
    record {
      frames = record { size = x.frames.size; each = λ j b n. rw (rows j b n) (x.frames.each j b n) };
      inside = λ j b l. let n : j ≢ f = λ z. omega arith in rw (rows j b n) (x.inside j b l);
      begun = x.begun;
      disk = go t.victim x.disk;
    }
  where
    go : (w : Victim) → OnDisk w g v s k f but → OnDisk w g v' s' k f but'
    go Written h = λ q lo hi nz some.
        rw (same q lo hi) (⊎_elim
        (λ y. inl (record {
          row = y.row;
          below = y.below;
          other = y.other;
          page-is = rw (rows y.row y.below y.other) y.page-is;
          dirty-is = rw (rows y.row y.below y.other) y.dirty-is;
        }))
        inr (h q lo hi (⊎_elim (λ y. y) (λ y. absurd (omega arith)) (wide q nz)) some))
    go Released h = (λ q lo hi. rw (same q lo hi) (h.0 q lo hi), λ j b n nz. rw (rows j b n) (h.1 j b n (rw (rows j b n) at nz)))

-- ---- a machine with no record pending

module _ {C : Type 0} {g : Geometry} {v m : List ℕ} {past : List StoredItem} {s : State} {k : List Logged}
    (x : Ctx C g v m past s k []) where
  pub all-is : x.all ≡ k
  all-is = x.al.log.split ∙ append-nil k

  -- the entry of any page of the index
  pub last-is : (p : ℕ) → 1 ≤ p → p ≤ 64 → (entry_of s.index p).last ≡ last_of p k
  last-is p lo hi = ap (λ (y : Entry). y.last) (x.al.index.entry p lo hi) ∙ ap (last_of p) all-is

  pub durable-is : (p : ℕ) → 1 ≤ p → p ≤ 64 → (entry_of s.index p).durable ≡ last_of p k
  durable-is p lo hi = ap (λ (y : Entry). y.durable) (x.al.index.entry p lo hi) ∙ ap (λ (l : List Logged). last_at p l (length k)) all-is

  pub is-blank : (p : ℕ) → 1 ≤ p → p ≤ 64 → count_of p k ≡ 0 → blank s p ≡ true
  is-blank p lo hi z = eq-eqb (entry_of s.index p).last 0 (last-is p lo hi ∙ count_none p k (length k) z)

  pub not-blank : (p : ℕ) → 1 ≤ p → p ≤ 64 → count_of p k ≢ 0 → blank s p ≡ false
  not-blank p lo hi nz = ne_eqb (entry_of s.index p).last 0 (λ z. nz (none-count p k (length k) (sym (last-is p lo hi) ∙ z)))

  -- a page with a change is in range
  pub in-volume : (p : ℕ) → count_of p k ≢ 0 → p ≤ g.pages
  in-volume p nz = elim (dec_lt g.pages p) [
    | yes y ↦ absurd (nz (none-count p k (length k) (last-past g.pages p k x.hs.fair y (length k) (omega arith))))
    | no z ↦ omega arith
  ]

module _ {C : Type 0} {g : Geometry} {v m : List ℕ} {past : List StoredItem} {s : State} {k w : List Logged}
    (x : Ctx C g v m past s k w) where
  -- a page is in one row
  pub one-row : (i j : ℕ) → i < 16 → j < 16 → (frame_row s i).page ≢ 0 → (frame_row s j).page ≡ (frame_row s i).page → j ≡ i
  one-row i j a b nz q =
      let nj : (frame_row s j).page ≢ 0 = λ z. nz (sym q ∙ z) in
      x.al.frames.once j i (x.al.frames.inside j b nj) (x.al.frames.inside i a nz) nj q
