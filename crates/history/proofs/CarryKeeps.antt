-- What Start, Restamp and Finish store keeps the invariant; a restamp that is left torn too.
use mathlib.Core.Path.{◌≡◌, refl, sym, ap, ◌∙◌, subst}
use mathlib.Core.Logic.{◌≢◌, ◌⊎◌, inl, inr}
use mathlib.Core.Bool.{true, false, cond, ◌&&◌, ◌||◌, not}
use mathlib.Core.List.{List, [], ◌∷◌}
use Prim.Native.Nat.{ℕ, suc, ◌+◌, ◌-◌, ◌≤◌, ◌<◌}
use native.Mathlib.Omega.{arith}
use lib.ListN.{length}
use lib.Dec.{eqb, leb}
use borrow.Author.Tests.{ne_eqb, leb-true, not-false}
use Rattle.laws.proofs.Tables.{by_cases, and_left, and_right, every-at, not-true, within-holds}
use Rattle.laws.proofs.Headings.{headed-tag, no-ring}
use Rattle.laws.proofs.Carry.{words_hold, bytes_hold, placed, named, only-old, named-noted, named-outside, alike-started}
use Rattle.laws.proofs.Carry.{alike-finished, image-place}
use Rattle.laws.proofs.WellFormed.{ready-behind}
use Rattle.laws.proofs.Restamped.{image-number}
use Rattle.laws.proofs.Places.{item-length}
use Rattle.laws.proofs.Items.{seal_image-length}
use Rattle.model.specs.Tables.{first_of, every, within}
use Rattle.model.specs.Checksum.{seal_image, image_sealed}
use Rattle.model.specs.Geometry.{tag_of, carry_tag, headed, with_tag, Place, page_at, slot_at, item, store, store_heading, ring}
use Rattle.model.specs.Item.{image_lsn, valid_image}
use Rattle.model.specs.Index.{entry_of, slot_used}
use Rattle.model.specs.Passes.{is_image, only_old, only_new, image_count, old_at}
use Rattle.model.specs.Refusals.{start_carry_rows}
use Rattle.model.specs.Outcome.{StoredItem, one_item, new_heading}
use Rattle.model.specs.AbstractLog.{Logged}
use Rattle.model.specs.History.{on, off, stored_before, pending_carries, page_carries, carriable}
use Rattle.model.specs.declared.{geometry.Geometry.Geometry, state.Entry.Entry}
use Rattle.model.specs.declared.state.State.{State}
use Rattle.model.specs.declared.geometry.Heading.TheVariants.{First, Second}
use Rattle.history.proofs.Marks.{mark_at, mark-ok}
use Rattle.history.proofs.Entries.{slot-spare, spare-tabled}
use Rattle.history.proofs.Records.{Faithful}
use Rattle.history.proofs.Sections.{volume-size}
use Rattle.history.proofs.Disk.{Holds, Noted}
use Rattle.history.proofs.Inv.{Inv, Past, PendingOk}
use Rattle.history.proofs.Images.{torn-fine}
use Rattle.history.proofs.Turn.{SameImages, SamePending, turn_holds, turn-noted, turn-alive, turn-past}
use Rattle.history.proofs.Carry.{image_holds, image-noted, image-pending, restamp-lsn, restamp-valid}
use Rattle.history.proofs.Carry.{restamp-faithful, restamp-image, restamp-past}
use Rattle.history.proofs.Context.{Ctx, sized, geo, entry-is}
use Rattle.model.specs.Types.{PendingNote, None, Some}

module _ {C : Type 0} {g : Geometry} {v m : List ℕ} {past : List StoredItem} {s : State} {k w : List Logged}
    (x : Ctx C g v m past s k w) where
  -- the slot that the state's index gives a page is the notes'
  slot_is : (p : ℕ) → 1 ≤ p → p ≤ g.pages → (entry_of s.index p).slot ≡ (mark_at p x.ns (length x.ns)).slot
  slot_is p lo hi = ap (λ (y : Entry). y.slot) (entry-is x p lo hi)

  mark-high : (p : ℕ) → (mark_at p x.ns (length x.ns)).slot ≤ g.slots
  mark-high p = (mark-ok g.pages g.slots k x.ns x.no.fit p (length x.ns) (omega arith)).slots

  -- ---- a heading stored

  module _ (tag : ℕ) (plain : ring g ≡ false) (known : (tag ≡ carry_tag) ⊎ (tag ≡ tag_of Second)) (same : SameImages g tag v x.ns)
      (pend : SamePending g tag v s.note) where
    pub keep-heading : Inv C (with_tag g tag) (store_heading v tag) (new_heading tag ∷ past) (on m s) (record { durable = k; pending = w })
    keep-heading =
        record {
          ns = x.ns;
          holds = turn_holds g v k x.hs x.ns x.no tag plain known same;
          noted = turn-noted g v k x.hs x.ns x.no tag plain known same;
          past-ok = turn-past g k past tag x.ps;
          live = (x.all, turn-alive g v k x.hs x.ns x.no tag plain known same m s w x.all pend x.al);
        }

  -- ---- Start

  pub start-tag : first_of (start_carry_rows v m s) ≡ 0 → g.tag ≡ tag_of First
  unfolding start_carry_rows
  start-tag h = let r = ready-behind (not (headed (tag_of First) v)) v m s [] h in
      sym (ap (λ (y : Geometry). y.tag) (geo x)) ∙ headed-tag (tag_of First) v (not-false (headed (tag_of First) v) r.0)

  module _ (tag : g.tag ≡ tag_of First) (fit : carriable g v s ≡ true) where
    fits-page : (p : ℕ) → 1 ≤ p → p ≤ g.pages → page_carries g v s (p - 1) ≡ true
    unfolding carriable
    fits-page p lo hi = every-at (page_carries g v s) g.pages
        (and_left (every g.pages (page_carries g v s)) (pending_carries g v s.note) fit) (p - 1) (omega arith)

    own-carries : (p : ℕ) → 1 ≤ p → p ≤ g.pages → only_new g p (item g v (page_at p)) ≡ false
    own-carries p lo hi =
        let e : suc (p - 1) ≡ p = omega arith in
        let t : (not (only_new g p (item g v (page_at p))) && (eqb (entry_of s.index p).slot 0
        || not (only_new g p (item g v (slot_at (entry_of s.index p).slot))))) ≡ true = rw e at (fits-page p lo hi) in
        not-true (only_new g p (item g v (page_at p))) (and_left (not (only_new g p (item g v (page_at p)))) _ t)

    copy-carries : (p : ℕ) → 1 ≤ p → p ≤ g.pages → (mark_at p x.ns (length x.ns)).slot ≢ 0
        → only_new g p (item g v (slot_at (mark_at p x.ns (length x.ns)).slot)) ≡ false
    copy-carries p lo hi nz =
        let e : suc (p - 1) ≡ p = omega arith in
        let t : (not (only_new g p (item g v (page_at p))) && (eqb (entry_of s.index p).slot 0
        || not (only_new g p (item g v (slot_at (entry_of s.index p).slot))))) ≡ true = rw e at (fits-page p lo hi) in
        let u = and_right (not (only_new g p (item g v (page_at p))))
        (eqb (entry_of s.index p).slot 0 || not (only_new g p (item g v (slot_at (entry_of s.index p).slot)))) t in
        let u' : (eqb (mark_at p x.ns (length x.ns)).slot 0
        || not (only_new g p (item g v (slot_at (mark_at p x.ns (length x.ns)).slot)))) ≡ true = rw (slot_is p lo hi) at u in
        not-true (only_new g p (item g v (slot_at (mark_at p x.ns (length x.ns)).slot)))
        (rw (ne_eqb (mark_at p x.ns (length x.ns)).slot 0 nz) at u')

    pub started-images : SameImages g carry_tag v x.ns
    started-images =
        record {
          own = λ p lo hi. alike-started g p (item g v (page_at p)) tag (own-carries p lo hi);
          copy = λ p lo hi nz. alike-started g p (item g v (slot_at (mark_at p x.ns (length x.ns)).slot)) tag
              (copy-carries p lo hi nz);
        }

    started-pending : (y : PendingNote) → pending_carries g v y ≡ true → SamePending g carry_tag v y
    started-pending None t = tt
    started-pending (Some y) t = λ z.
        alike-started g y.page (item g v (slot_at y.slot)) tag
        (not-true (only_new g y.page (item g v (slot_at y.slot))) (rw z at t))

    pub keep-started : Inv C (with_tag g carry_tag) (store_heading v carry_tag) (new_heading carry_tag ∷ past) (on m s)
        (record { durable = k; pending = w })
    unfolding carriable
    keep-started =
        keep-heading carry_tag (no-ring g (rw tag refl)) (inl refl) started-images
        (started-pending s.note (and_right (every g.pages (page_carries g v s)) (pending_carries g v s.note) fit))

  -- ---- Finish

  module _ (tag : g.tag ≡ carry_tag) (none : (i : ℕ) → i < image_count g → old_at g v s.index i ≡ false) where
    none-at-place : (at : Place) → is_image g at ≡ true → only_old g s.index at (item g v at) ≡ false
    none-at-place at i =
        let n = image-number g at i in
        subst (λ (p : Place). only_old g s.index p (item g v p) ≡ false) n.place_is (none n.number n.below)

    finished-own : (p : ℕ) → 1 ≤ p → p ≤ g.pages
        → valid_image (with_tag g (tag_of Second)) p (item g v (page_at p)) ≡ valid_image g p (item g v (page_at p))
    finished-own p lo hi =
        let i = within-holds g.pages p lo hi in
        alike-finished g s.index (page_at p) p (item g v (page_at p)) tag i (λ t. t) (none-at-place (page_at p) i)

    finished-copy : (p : ℕ) → 1 ≤ p → p ≤ g.pages → (b : ℕ) → b ≢ 0 → (mark_at p x.ns (length x.ns)).slot ≡ b
        → valid_image (with_tag g (tag_of Second)) p (item g v (slot_at b)) ≡ valid_image g p (item g v (slot_at b))
    finished-copy p lo hi b nz z =
        let i : within g.slots b ≡ true = within-holds g.slots b (omega arith) (omega (arith, mark-high p)) in
        let used : slot_used b s.index ≡ true = by_cases (slot_used b s.index) (λ t. t)
        (λ t. absurd (slot-spare s.index x.all (length x.all) (length k) x.ns (length x.ns) x.al.index b t p lo
        (omega (arith, (sized x).p-high)) z)) in
        let sn : suc (0 + (p - 1)) ≡ p = omega arith in
        let pl : named p (item g v (slot_at b)) ≡ true → placed g.pages s.index (slot_at b) (item g v (slot_at b)) ≡ true = λ t.
        rw used (named-noted b (item g v (slot_at b)) s.index 0 (p - 1) (omega (arith, x.al.index.size, (sized x).p-high))
        (slot_is p lo hi ∙ z) (rw sn t)) in
        alike-finished g s.index (slot_at b) p (item g v (slot_at b)) tag i pl (none-at-place (slot_at b) i)

    pub finished-images : SameImages g (tag_of Second) v x.ns
    finished-images =
        record { own = finished-own; copy = λ p lo hi nz. finished-copy p lo hi (mark_at p x.ns (length x.ns)).slot nz refl }

    finished-pending : (y : PendingNote) → PendingOk C g v k x.ns y → SamePending g (tag_of Second) v y
    finished-pending None t = tt
    finished-pending (Some y) t = λ z.
        let bk = t.0.backed z in
        let i : within g.slots y.slot ≡ true = within-holds g.slots y.slot bk.low bk.high in
        let unused : slot_used y.slot s.index ≡ false =
        spare-tabled s.index _ x.al.index y.slot bk.spare in
        alike-finished g s.index (slot_at y.slot) y.page (item g v (slot_at y.slot)) tag i
        (λ n. named-outside g.pages s.index y.slot y.page (item g v (slot_at y.slot)) unused t.0.low t.0.high n)
        (none-at-place (slot_at y.slot) i)

    pub keep-finished : Inv C (with_tag g (tag_of Second)) (store_heading v (tag_of Second)) (new_heading (tag_of Second) ∷ past) (on m s)
        (record { durable = k; pending = w })
    keep-finished =
        keep-heading (tag_of Second) (no-ring g (rw tag refl)) (inr refl) finished-images (finished-pending s.note x.al.note-ok)

  -- ---- Restamp

  module _ (tag : g.tag ≡ carry_tag) (at : Place) (here : is_image g at ≡ true) (was : only_old g s.index at (item g v at) ≡ true) where
    size : length (item g v at) ≡ 256
    size = let q = image-place g at here in item-length g v (volume-size g v x.hs.vol) at q.0 ∙ q.1

    words : words_hold (item g v at) ≡ true
    words = and_left (words_hold (item g v at)) (not (bytes_hold (item g v at)) && placed g.pages s.index at (item g v at))
        (sym (only-old g s.index at (item g v at) here) ∙ was)

    new-size : length (seal_image g (item g v at)) ≡ 256
    new-size = seal_image-length g (item g v at) size

    keeps : (q : ℕ) → Faithful g q k (item g v at) → Faithful g q k (seal_image g (item g v at))
    keeps q f = restamp-faithful g tag (item g v at) size words q k f

    stands : C → (q : ℕ) → valid_image g q (item g v at) ≡ true → (valid_image g q (seal_image g (item g v at)) ≡ true)
        × (image_lsn (seal_image g (item g v at)) ≡ image_lsn (item g v at))
    stands c q t = (restamp-valid g tag (item g v at) size q t, restamp-lsn g tag (item g v at) size)

    pub restamped-holds : Holds g (store g v at (seal_image g (item g v at))) k
    restamped-holds = image_holds g v k x.hs x.ns x.no at (seal_image g (item g v at)) new-size keeps here

    pub restamped-noted : Noted C g (store g v at (seal_image g (item g v at))) k x.ns
    restamped-noted = image-noted g v k x.hs x.ns x.no at (seal_image g (item g v at)) new-size keeps here copies
      where
        copies : C → (b q : ℕ) → at ≡ slot_at b → 1 ≤ q → q ≤ g.pages → (mark_at q x.ns (length x.ns)).slot ≡ b
            → (valid_image g q (seal_image g (item g v at)) ≡ true)
            × (image_lsn (seal_image g (item g v at)) ≡ (mark_at q x.ns (length x.ns)).backup)
        copies c b q e lo hi z =
            let i = within-bounds-slot b (subst (λ (y : Place). is_image g y ≡ true) e here) in
            let cp = x.no.copies c q lo hi (λ y. omega arith) in
            let it : item g v at ≡ item g v (slot_at (mark_at q x.ns (length x.ns)).slot) = ap (item g v) (e ∙ ap slot_at (sym z)) in
            let st = stands c q (ap (valid_image g q) it ∙ cp.0) in
            (st.0, st.1 ∙ (ap image_lsn it ∙ cp.1))
          where
            within-bounds-slot : (b : ℕ) → is_image g (slot_at b) ≡ true → 1 ≤ b
            within-bounds-slot b t = leb-true 1 b (and_left (leb 1 b) (leb b g.slots) t)

    pub restamped-pending : PendingOk C g (store g v at (seal_image g (item g v at))) k x.ns s.note
    restamped-pending =
        image-pending g v k x.hs x.ns x.no at (seal_image g (item g v at)) new-size keeps here stands s.note x.al.note-ok

    abbrev new_past : List StoredItem
    new_past = cond (stored_before at (item g v at) past) (one_item at (seal_image g (item g v at)) ∷ past) past

    restamped-past : Past g k new_past
    restamped-past = restamp-past g v k past at (seal_image g (item g v at)) here (restamp-image g tag (item g v at) size k) x.ps

    pub keep-restamped : Inv C g (store g v at (seal_image g (item g v at))) new_past (on m s) (record { durable = k; pending = w })
    keep-restamped =
        record {
          ns = x.ns;
          holds = restamped-holds;
          noted = restamped-noted;
          past-ok = restamped-past;
          live = (
            x.all,
            record {
              F = x.al.F;
              memory = x.al.memory;
              log = x.al.log;
              frames = x.al.frames;
              index = x.al.index;
              displaced = x.al.displaced;
              notes-is = x.al.notes-is;
              note-ok = restamped-pending;
            },
          );
        }

    -- left torn it is nobody's; the noted backups stand where it was none of them
    pub torn-restamp : (ys : List ℕ) → length ys ≡ 256 → image_sealed g ys ≡ false
        → (C → (b : ℕ) → at ≡ slot_at b → slot_used b s.index ≡ false)
        → Inv C g (store g v at ys) past off (record { durable = k; pending = [] })
    torn-restamp ys five t unused =
        let fails : (q : ℕ) → Faithful g q k (item g v at) → Faithful g q k ys = λ q f. torn-fine g k ys t q in
        record {
          ns = x.ns;
          holds = image_holds g v k x.hs x.ns x.no at ys five fails here;
          noted = image-noted g v k x.hs x.ns x.no at ys five fails here (λ c b q e lo hi z.
              absurd (slot-spare s.index x.all (length x.all) (length k) x.ns (length x.ns) x.al.index b
              (unused c b e) q lo (omega (arith, (sized x).p-high)) z));
          past-ok = x.ps;
          live = tt;
        }
