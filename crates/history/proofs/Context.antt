-- A machine that is on and keeps the invariant, as the calls' proofs use it: its counts, its entries, the frame of a page, and calls that
-- change nothing.
use mathlib.Core.Path.{◌≡◌, refl, ap, ◌∙◌}
use mathlib.Core.Logic.{◌≢◌}
use mathlib.Core.Bool.{Bool, true, false, cond, not}
use mathlib.Core.List.{List, [], ◌∷◌}
use Prim.Native.Nat.{ℕ, suc, ◌+◌, ◌-◌, ◌≤◌, ◌<◌}
use native.Mathlib.Omega.{arith}
use lib.ListN.{length, get_or-append}
use lib.Dec.{eqb}
use borrow.Author.Tests.{eqb-true, ne_eqb, ltb-true, ltb-false, not-false}
use Rattle.laws.proofs.Tables.{by_cases, within-bounds}
use Rattle.laws.proofs.Frames.{not-held}
use Rattle.model.specs.Tables.{Row, first_of, within}
use Rattle.model.specs.Geometry.{top_number, geometry_of}
use Rattle.model.specs.Index.{entry_of}
use Rattle.model.specs.State.{frame_bytes, holder, held}
use Rattle.model.specs.Refusals.{frame_blocked}
use Rattle.model.specs.Outcome.{StoredItem, nothing, Outcome, volume_after, unchanged, decided}
use Rattle.model.specs.AbstractLog.{Logged, AbstractLog}
use Rattle.model.specs.History.{on}
use Rattle.model.specs.declared.{geometry.Geometry.Geometry, answer.Answer.Answer, answer.Answer.TheVariants.Refused}
use Rattle.model.specs.declared.{item.Note.Note, state.Entry.Entry, state.State.State}
use Rattle.history.proofs.Logs.{no_logged, at, last_at, last_of, body_of, replay_at, last-page, last-mono}
use Rattle.history.proofs.Logs.{replay-last, replay-append, last-append}
use Rattle.history.proofs.Marks.{mark_at}
use Rattle.history.proofs.Entries.{entry_from}
use Rattle.history.proofs.Records.{AllFair, length-replay}
use Rattle.history.proofs.Sections.{Sized, volume-sized, most-high}
use Rattle.history.proofs.Disk.{Holds, Noted}
use Rattle.history.proofs.Inv.{Past, past-cons, Framed, Settled, frame, Alive, Inv}
use Rattle.history.proofs.LogSteps.{len-all, sum_is}
use Rattle.history.proofs.FrameSteps.{found}

pub record Ctx (C : Type 0) (g : Geometry) (v m : List ℕ) (past : List StoredItem) (s : State) (k w : List Logged) : Type 0 where
  pub all : List Logged
  pub ns : List Note
  pub hs : Holds g v k
  pub no : Noted C g v k ns
  pub ps : Past g k past
  pub al : Alive C g v m s k w all ns

-- the invariant after an outcome
abbrev pub Preserved : Type 0 → Geometry → List ℕ → List StoredItem → Outcome → AbstractLog → Type 0
Preserved C g v past o b = Inv C g (volume_after v o.stored) (o.stored ∷ past) (on o.memory o.state) b

-- rows that do not refuse
abbrev pub Codes : List Row → Type 0
Codes [] = Unit {0}
Codes (t ∷ ts) = (1 ≤ t.1) × Codes ts

abbrev pub Passed : List Row → Type 0
Passed [] = Unit {0}
Passed (t ∷ ts) = (t.0 ≡ false) × Passed ts

pub passed : (ts : List Row) → Codes ts → first_of ts ≡ 0 → Passed ts
passed [] c e = tt
passed (t ∷ ts) c e = (r.0, passed ts c.1 r.1)
  where
    go : (b : Bool) (n r : ℕ) → 1 ≤ n → cond b n r ≡ 0 → (b ≡ false) × (r ≡ 0)
    go true n r h q = absurd (omega arith)
    go false n r h q = (refl, q)

    r : (t.0 ≡ false) × (first_of ts ≡ 0)
    r = go t.0 t.1 (first_of ts) c.0 e

pub in-range : (P p : ℕ) → not (within P p) ≡ false → (1 ≤ p) × (p ≤ P)
in-range P p t = within-bounds P p (not-false (within P p) t)

module _ {C : Type 0} {g : Geometry} {v m : List ℕ} {past : List StoredItem} {s : State} {k w : List Logged}
    (x : Ctx C g v m past s k w) where
  pub sized : Sized g
  sized = volume-sized g v x.hs.vol

  pub geo : geometry_of v ≡ g
  geo = x.hs.vol.geo

  pub len : length x.all ≡ length k + length w
  len = len-all g m s.durable s.pending k w x.all x.al.log

  pub sum : s.durable + s.pending ≡ length x.all
  sum = sum_is g m s.durable s.pending k w x.all x.al.log

  pub fair : AllFair g.pages x.all
  fair = x.al.log.fair

  pub few : length x.all ≤ top_number
  few = omega (arith, x.al.log.room, most-high g sized)

  pub body-size : (p : ℕ) → length (body_of p x.all) ≡ 244
  body-size p = length-replay g.pages p x.all (length x.all) (omega arith) fair

  -- a page's entry
  module _ (p : ℕ) (lo : 1 ≤ p) (hi : p ≤ g.pages) where
    pub entry-is : entry_of s.index p ≡ entry_from (last_of p x.all) (last_at p x.all (length k)) (mark_at p x.ns (length x.ns))
    entry-is = x.al.index.entry p lo (omega (arith, sized.p-high))

    pub last_entry : (entry_of s.index p).last ≡ last_of p x.all
    last_entry = ap (λ (e : Entry). e.last) entry-is

    pub durable-last : last_at p x.all (length k) ≡ last_of p k
    durable-last = rw x.al.log.split (last-append p k w (length k) (omega arith))

  -- a page whose newest change is durable, seen from the durable list
  module _ (p j : ℕ) (e : last_of p x.all ≡ suc j) (b : suc j ≤ length k) where
    pub durable-page : (at k j).page ≡ p
    durable-page = rw (x.al.log.split, get_or-append k w no_logged j b) at (last-page p x.all (length x.all) j e)

    pub durable-body : body_of p x.all ≡ replay_at p k (suc j)
    durable-body = replay-last p x.all (length x.all) ∙ (rw (e, x.al.log.split) (replay-append p k w (suc j) b))

  -- the frame that a call finds by its page
  pub record Found (p : ℕ) : Type 0 where
    pub row : ℕ
    pub holder-is : holder s p ≡ suc row
    pub in_table : row < x.al.F
    pub page-is : (frame s.frames row).page ≡ p
    pub framed : Framed g.pages x.all p (frame_bytes m (holder s p))

  pub found-frame : (p : ℕ) → 1 ≤ p → not (held s p) ≡ false → Found p
  found-frame p lo t =
      let h = found p s.frames (ltb-true 0 (holder s p) (not-false (held s p) t)) in
      let nz : (frame s.frames h.row).page ≢ 0 = λ z. omega (arith, h.page-is) in
      let b : h.row < x.al.F = x.al.frames.inside h.row (omega (arith, h.below, x.al.frames.size)) nz in
      record {
        row = h.row;
        holder-is = h.holder-is;
        in_table = b;
        page-is = h.page-is;
        framed = rw h.holder-is (rw h.page-is at (x.al.frames.each h.row b nz));
      }

  pub nowhere : (p : ℕ) → held s p ≡ false → (j : ℕ) → j < x.al.F → (frame s.frames j).page ≢ p
  nowhere p t j b = not-held s p t j (omega (arith, x.al.frames.size, x.al.memory.high))

  -- a page that row 10 lets go has no change that is pending
  pub unblocked : (f : ℕ) → 1 ≤ f → f ≤ x.al.F → frame_blocked s f ≡ false → (frame s.frames (f - 1)).page ≢ 0
      → Settled x.all (length k) (frame s.frames (f - 1)).page
  unblocked f lo hi t nz =
      let p = (frame s.frames (f - 1)).page in
      let fr = x.al.frames.each (f - 1) (omega arith) nz in
      let e = entry-is p fr.low fr.high in
      let l : (entry_of s.index p).last ≤ (entry_of s.index p).durable = ltb-false _ _ (rw (ne_eqb p 0 nz) at t) in
      omega (
        arith,
        last-mono p x.all (length x.all) (length k) (omega (arith, len)),
        ap (λ (y : Entry). y.last) e,
        ap (λ (y : Entry). y.durable) e,
      )

  pub keep_same : (an : Answer) → Preserved C g v past (unchanged an m s) (record { durable = k; pending = w })
  unfolding volume_after
  keep_same an =
      record { ns = x.ns; holds = x.hs; noted = x.no; past-ok = past-cons g k past nothing tt x.ps; live = (x.all, x.al) }

  -- a call by its table
  pub keep-decided : (rows : List Row) (done : Outcome) (b : AbstractLog) → (first_of rows ≡ 0 → Preserved C g v past done b)
      → Preserved C g v past (decided rows m s done) (cond (not (eqb (first_of rows) 0)) (record { durable = k; pending = w }) b)
  unfolding decided
  keep-decided rows done b f =
      by_cases (eqb (first_of rows) 0) (λ t. rw t (f (eqb-true (first_of rows) 0 t))) (λ t. rw t (keep_same (Refused (first_of rows))))
