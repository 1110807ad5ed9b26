-- A restart, a crash between calls and damage keep the invariant.
use mathlib.Core.Path.{◌≡◌, refl, sym, ap, ◌∙◌, subst}
use mathlib.Core.Logic.{◌≢◌, ◌⊎◌, inl, inr}
use mathlib.Core.Bool.{true, false, cond, ◌&&◌}
use mathlib.Core.List.{List, [], ◌∷◌, append-nil}
use Prim.Native.Nat.{ℕ, zero, suc, ◌+◌, ◌-◌, ◌≤◌, ◌<◌}
use native.Mathlib.Omega.{arith}
use native.Mathlib.Decide.{ℕ_discrete}
use lib.ListN.{length, get_or, replicate, length-replicate, get_or-replicate}
use lib.Dec.{eqb}
use native.Mathlib.Nat.{le_of_suc-le-suc}
use borrow.Author.Tests.{eqb-true, eq-eqb}
use Rattle.laws.proofs.Tables.{by_cases, and_both, or-neither, true-not-false, within-bounds, within-holds}
use Rattle.model.specs.Tables.{first_of}
use Rattle.model.specs.Geometry.{Place, page_at, slot_at, record_at, note_at, item, store, ring}
use Rattle.laws.proofs.Ring.{displaced-restart}
use Rattle.model.specs.Item.{valid_image, valid_somewhere, is_written}
use Rattle.model.specs.Index.{empty_entry, slot_used}
use Rattle.model.specs.Scan.{index_of}
use Rattle.model.specs.State.{valid_memory, frame_count, empty_frame}
use Rattle.model.specs.Refusals.{restart_rows}
use Rattle.model.specs.Outcome.{StoredItem, decided}
use Rattle.model.specs.Restart.{restart_state, restart_of}
use Rattle.model.specs.AbstractLog.{Logged, AbstractLog, forget}
use Rattle.model.specs.Passes.{is_image, valid_as_noted, passes_at}
use Rattle.model.specs.History.{Power, off, on, restarted, stored_before}
use Rattle.model.specs.declared.{geometry.Geometry.Geometry, item.Note.Note, state.Entry.Entry, state.Frame.Frame}
use Rattle.history.proofs.Logs.{last_at}
use Rattle.history.proofs.Marks.{mark_at}
use Rattle.history.proofs.Entries.{entry_from, Indexed, spare-tabled, slot-spare}
use Rattle.history.proofs.Leaf.{valid-page}
use Rattle.history.proofs.Records.{Faithful}
use Rattle.history.proofs.Sections.{volume-sized}
use Rattle.history.proofs.Disk.{Holds, Noted, Stands, Torn, Spare}
use Rattle.history.proofs.NoteScan.{note-count}
use Rattle.history.proofs.NoteIndex.{index_is}
use Rattle.history.proofs.LogScan.{durable-count}
use Rattle.history.proofs.Inv.{image-fine, Past, PendingOk, frame, Alive, PowerInv, Inv}
use Rattle.history.proofs.Stores.{page-holds, page-noted, page-slots, slot-holds, slot-noted, slot_same, slot-other, pending-keep}
use Rattle.history.proofs.Memory.{memory-is}
use Rattle.model.specs.Types.{PendingNote, None, Some}

-- ---- Restart

module _ {C : Type 0} (g : Geometry) (v : List ℕ) (k : List Logged) (h : Holds g v k) (ns : List Note) (o : Noted C g v k ns) where
  -- a Restart that is not refused was lent a memory of the right size
  pub restart-memory : (m : List ℕ) → first_of (restart_rows v m) ≡ 0 → valid_memory (length m) ≡ true
  unfolding restart_rows
  restart-memory m e = by_cases (valid_memory (length m)) (λ t. t) (λ t. absurd (let z : 2 ≡ 0 = rw (h.vol.ok, t) at e in omega arith))

  empty-frame : (j : ℕ) → j < 16 → frame (replicate 16 empty_frame) j ≡ empty_frame
  empty-frame j b = get_or-replicate 16 j empty_frame empty_frame b

  fresh-alive : (m : List ℕ) → valid_memory (length m) ≡ true → Alive C g v (replicate (length m) 0) (restart_state v) k [] k ns
  unfolding restart_state
  fresh-alive m t =
      let M = memory-is m t in
      let F : ℕ = frame_count (length m) in
      rw (h.vol.geo, durable-count g v k h ns o, note-count g v k h ns o) (record {
        F = F;
        memory = record { size = length-replicate (length m) 0 ∙ M.size; low = M.low; high = M.high };
        log = record {
          split = sym (append-nil k);
          durable-is = refl;
          pending-is = refl;
          room = h.room;
          fair = h.fair;
          few = omega arith;
          pends = λ i a b. absurd (omega arith);
        };
        frames = record {
          size = length-replicate 16 empty_frame;
          inside = λ j b n. absurd (n (ap (λ (f : Frame). f.page) (empty-frame j b)));
          idle = λ j b n. ap (λ (f : Frame). f.dirty) (empty-frame j b);
          each = λ j b n. absurd (n (ap (λ (f : Frame). f.page) (empty-frame j (omega (arith, M.high)))));
          once = λ i j a b n q. absurd (n (ap (λ (f : Frame). f.page) (empty-frame i (omega (arith, M.high)))));
          away = λ p lo hi n. refl;
        };
        index = rw (note-count g v k h ns o) at (index_is g v k h ns o);
        displaced = displaced-restart (ring g) g.records (length k) (Stands g v k) (Torn g v) (Spare k ns) o.run;
        notes-is = refl;
        note-ok = tt;
      })

pub inv-restart : {C : Type 0} (g : Geometry) (v : List ℕ) (past : List StoredItem) (x : Power) (b : AbstractLog) (m : List ℕ)
    → Inv C g v past x b
    → Inv C g v past (restarted v m) (cond (eqb (first_of (restart_rows v m)) 0) (forget b) b)
unfolding restart_of decided
inv-restart g v past x b m i =
    by_cases (eqb (first_of (restart_rows v m)) 0)
    (λ t.
    let e = eqb-true (first_of (restart_rows v m)) 0 t in
    let ok = restart-memory g v b.durable i.holds i.ns i.noted m e in
    rw t (record {
      ns = i.ns;
      holds = i.holds;
      noted = i.noted;
      past-ok = i.past-ok;
      live = (b.durable, fresh-alive g v b.durable i.holds i.ns i.noted m ok);
    }))
    (λ t. rw t (record { ns = i.ns; holds = i.holds; noted = i.noted; past-ok = i.past-ok; live = tt }))

pub inv-crash-between : {C : Type 0} (g : Geometry) (v : List ℕ) (past : List StoredItem) (x : Power) (b : AbstractLog) → Inv C g v past x b
    → Inv C g v past off (forget b)
inv-crash-between g v past x b i = record { ns = i.ns; holds = i.holds; noted = i.noted; past-ok = i.past-ok; live = tt }

-- ---- damage

-- an image that is valid as no page to which the index gives the slot
not_noted : (g : Geometry) (b : ℕ) (xs : List ℕ) (index : List Entry) (n : ℕ) → valid_as_noted g b xs n index ≡ false
    → (i : ℕ) → i < length index → (get_or index i empty_entry).slot ≡ b → valid_image g (suc (n + i)) xs ≡ false
unfolding valid_as_noted
not_noted g b xs [] n h i c e = absurd (omega arith)
not_noted g b xs (y ∷ index) n h zero c e =
    let z : (eqb y.slot b && valid_image g (suc n) xs) ≡ false =
    (or-neither (eqb y.slot b && valid_image g (suc n) xs) (valid_as_noted g b xs (suc n) index) h).0 in
    let q : n + 0 ≡ n = omega arith in
    rw q (rw (eq-eqb y.slot b e) at z)
not_noted g b xs (y ∷ index) n h (suc i) c e =
    let z = (or-neither (eqb y.slot b && valid_image g (suc n) xs) (valid_as_noted g b xs (suc n) index) h).1 in
    let q : n + suc i ≡ suc n + i = omega arith in
    rw q (not_noted g b xs index (suc n) z i (le_of_suc-le-suc c) e)

-- an image that is valid as a page in range is valid somewhere
somewhere : (g : Geometry) (xs : List ℕ) (q : ℕ) → 1 ≤ q → q ≤ g.pages → valid_image g q xs ≡ true → valid_somewhere g xs ≡ true
unfolding valid_somewhere
somewhere g xs q lo hi t = rw (valid-page g q xs t) (and_both (within-holds g.pages q lo hi) t)

-- what damage may leave in slot i, as the notes see it
pub record SlotDamage (g : Geometry) (k : List Logged) (ns : List Note) (i : ℕ) (xs : List ℕ) : Type 0 where
  pub given : (q : ℕ) → 1 ≤ q → q ≤ g.pages → (mark_at q ns (length ns)).slot ≡ i → Faithful g q k xs
  pub outside : ((p : ℕ) → 1 ≤ p → p ≤ 64 → (mark_at p ns (length ns)).slot ≢ i) → (q : ℕ) → 1 ≤ q → q ≤ g.pages → Faithful g q k xs

module _ {C : Type 0} (g : Geometry) (v : List ℕ) (k : List Logged) (h : Holds g v k) (ns : List Note) (o : Noted C g v k ns) where
  idx : Indexed (index_of g v) k (length k) (length k) ns (length ns)
  idx = index_is g v k h ns o

  slot-damage : (i : ℕ) (xs : List ℕ) (past : List StoredItem) → is_image g (slot_at i) ≡ true → Past g k past
      → (passes_at g (index_of g v) (slot_at i) xs ≡ false) ⊎ (stored_before (slot_at i) xs past ≡ true) → SlotDamage g k ns i xs
  slot-damage i xs past r ps (inr e) =
      let f = image-fine g k xs (ps (slot_at i) xs r e) in
      record { given = λ q lo hi z. f q; outside = λ sp q lo hi. f q }
  slot-damage i xs past r ps (inl e) =
      record {
        given = λ q lo hi z t.
            let hi' : q ≤ 64 = omega (arith, (volume-sized g v h.vol).p-high) in
            let used : slot_used i (index_of g v) ≡ true = not-spare q lo hi' z in
            let n : valid_as_noted g i xs 0 (index_of g v) ≡ false = rw used at e in
            let s : suc (0 + (q - 1)) ≡ q = omega arith in
            let nv : valid_image g q xs ≡ false = rw s at
            (not_noted g i xs (index_of g v) 0 n (q - 1) (omega (arith, idx.size))
            (ap (λ (y : Entry). y.slot) (idx.entry q lo hi') ∙ z)) in
            absurd (true-not-false t nv);
        outside = λ sp q lo hi t.
            let u : slot_used i (index_of g v) ≡ false = spare-tabled (index_of g v)
            (λ p. entry_from (last_at p k (length k)) (last_at p k (length k)) (mark_at p ns (length ns))) idx i sp in
            let n : valid_somewhere g xs ≡ false = rw u at e in
            absurd (true-not-false (somewhere g xs q lo hi t) n);
      }
    where
      not-spare : (q : ℕ) → 1 ≤ q → q ≤ 64 → (mark_at q ns (length ns)).slot ≡ i → slot_used i (index_of g v) ≡ true
      not-spare q lo hi z = by_cases (slot_used i (index_of g v)) (λ t. t)
          (λ t. absurd (slot-spare (index_of g v) k (length k) (length k) ns (length ns) idx i t q lo hi z))

  pending-damage : (i : ℕ) (xs : List ℕ) → 1 ≤ i → i ≤ g.slots → length xs ≡ 256 → (C → ⊥) → SlotDamage g k ns i xs → (y : PendingNote)
      → PendingOk C g v k ns y → PendingOk C g (store g v (slot_at i) xs) k ns y
  pending-damage i xs lo hi five no-c d None t = tt
  pending-damage i xs lo hi five no-c d (Some y) t = (t.0, t.1, (λ z. go z (ℕ_discrete y.slot i)), t.3, (λ c z. absurd (no-c c)))
    where
      go : is_written y ≡ false → Dec (y.slot ≡ i) → Faithful g y.page k (item g (store g v (slot_at i) xs) (slot_at y.slot))
      go z (yes e) =
          rw (e, slot_same g v k h ns o i xs lo hi five)
          (d.outside (subst (λ (n : ℕ). (p : ℕ) → 1 ≤ p → p ≤ 64 → (mark_at p ns (length ns)).slot ≢ n) e (t.0.backed z).spare) y.page
          t.0.low t.0.high)
      go z (no e) =
          let bk = t.0.backed z in
          rw (slot-other g v k h ns o i xs lo hi five (slot_at y.slot) (bk.low, bk.high) (omega (arith, bk.low))) (t.2 z)

-- a live machine after a store that leaves its pending note in order
live-keep : (C : Type 0) (g : Geometry) (v v' : List ℕ) (x : Power) (b : AbstractLog) (ns : List Note)
    → ((y : PendingNote) → PendingOk C g v b.durable ns y → PendingOk C g v' b.durable ns y)
    → PowerInv C g v x b ns → PowerInv C g v' x b ns
live-keep C g v v' off b ns f l = tt
live-keep C g v v' (on m s) b ns f l = (
  l.0,
  record {
    F = l.1.F;
    memory = l.1.memory;
    log = l.1.log;
    frames = l.1.frames;
    index = l.1.index;
    displaced = l.1.displaced;
    notes-is = l.1.notes-is;
    note-ok = f s.note l.1.note-ok;
  },
)

pub inv-damage : (C : Type 0) (g : Geometry) (v : List ℕ) (past : List StoredItem) (x : Power) (b : AbstractLog) (at : Place) (xs : List ℕ)
    → (C → ⊥) → is_image g at ≡ true → length xs ≡ 256
    → (passes_at g (index_of g v) at xs ≡ false) ⊎ (stored_before at xs past ≡ true) → Inv C g v past x b → Inv C g (store g v at xs) past x b
inv-damage C g v past x b (page_at p) xs no-c r five d i =
    let w = within-bounds g.pages p r in
    let f = valid d in
    record {
      ns = i.ns;
      holds = page-holds g v b.durable i.holds i.ns i.noted p xs w.0 w.1 five f;
      noted = page-noted g v b.durable i.holds i.ns i.noted p xs w.0 w.1 five f;
      past-ok = i.past-ok;
      live = live-keep C g v (store g v (page_at p) xs) x b i.ns
          (λ y. pending-keep C g v (store g v (page_at p) xs) b.durable b.durable i.ns y (λ q z f. f) (λ z f. f)
          (page-slots g v b.durable i.holds i.ns i.noted p xs w.0 w.1 five f)) i.live;
    }
  where
    valid : (valid_image g p xs ≡ false) ⊎ (stored_before (page_at p) xs past ≡ true) → Faithful g p b.durable xs
    valid (inl e) = λ t. absurd (true-not-false t e)
    valid (inr e) = image-fine g b.durable xs (i.past-ok (page_at p) xs r e) p
inv-damage C g v past x b (slot_at n) xs no-c r five d i =
    let w = within-bounds g.slots n r in
    let f = slot-damage g v b.durable i.holds i.ns i.noted n xs past r i.past-ok d in
    record {
      ns = i.ns;
      holds = slot-holds g v b.durable i.holds i.ns i.noted n xs w.0 w.1 five;
      noted = slot-noted g v b.durable i.holds i.ns i.noted n xs w.0 w.1 five f.given (λ c p a z e. absurd (no-c c));
      past-ok = i.past-ok;
      live = live-keep C g v (store g v (slot_at n) xs) x b i.ns
          (pending-damage g v b.durable i.holds i.ns i.noted n xs w.0 w.1 five no-c f) i.live;
    }
inv-damage C g v past x b (record_at n) xs no-c r five d i = absurd (true-not-false r refl)
inv-damage C g v past x b (note_at n) xs no-c r five d i = absurd (true-not-false r refl)
