-- Write and Backup keep the invariant: the image that they store is a replay, and the note that they leave may follow.
use mathlib.Core.Path.{◌≡◌, refl, sym, ◌∙◌}
use mathlib.Core.Logic.{◌≢◌}
use mathlib.Core.Bool.{true, false}
use mathlib.Core.List.{List, ◌∷◌}
use Prim.Native.Nat.{ℕ, zero, suc, ◌+◌, ◌-◌, ◌≤◌}
use native.Mathlib.Omega.{arith}
use lib.ListN.{length}
use lib.Dec.{lit≤}
use Rattle.laws.proofs.Tables.{true-not-false}
use Rattle.laws.proofs.Items.{seal_image-valid, seal_image-field, frame_image-page, frame_image-zeros}
use Rattle.model.specs.Checksum.{image_sealed, seal_image}
use Rattle.model.specs.Geometry.{top_number, Place, page_at, slot_at, width, store}
use Rattle.model.specs.Item.{image_lsn, valid_image, frame_image, is_written}
use Rattle.model.specs.Index.{slot_used}
use Rattle.model.specs.State.{frame_bytes, holder}
use Rattle.model.specs.Outcome.{StoredItem, one_item}
use Rattle.model.specs.AbstractLog.{Logged}
use Rattle.model.specs.History.{item_sealed}
use Rattle.model.specs.declared.{geometry.Geometry.Geometry, item.Note.Note, state.State.State}
use Rattle.history.proofs.Logs.{last_of, body_of, last-le, last-below}
use Rattle.history.proofs.Marks.{mark_at, NoteOk, Backed, mark-ok}
use Rattle.history.proofs.Entries.{slot-spare}
use Rattle.history.proofs.Leaf.{frame-lsn, frame-size, image-lsn, image-body, image-size, valid-sealed}
use Rattle.history.proofs.Disk.{Holds, Noted}
use Rattle.history.proofs.Inv.{Fine, Image, image-fine, Past, past-cons, Settled}
use Rattle.history.proofs.Stores.{page-holds, page-noted, slot-holds, slot-noted}
use Rattle.history.proofs.Context.{Ctx, sized, len, few, body-size, durable-last, durable-page, durable-body, Found}

-- an item that may be stored: what it leaves whole, and torn
pub record StoreOk (C : Type 0) (g : Geometry) (v : List ℕ) (past : List StoredItem) (k : List Logged) (ns : List Note) (at : Place)
    (xs : List ℕ) (k' : List Logged) (ns' : List Note) : Type 0 where
  pub holds' : Holds g (store g v at xs) k'
  pub noted' : Noted C g (store g v at xs) k' ns'
  pub past' : Past g k' (one_item at xs ∷ past)
  pub torn' : (ys : List ℕ) → item_sealed g at ys ≡ false → length ys ≡ width at → Holds g (store g v at ys) k
      × Noted C g (store g v at ys) k ns

-- a torn image is nobody's
pub torn-fine : (g : Geometry) (k : List Logged) (ys : List ℕ) → image_sealed g ys ≡ false → Fine g k ys
torn-fine g k ys t q z = absurd (true-not-false (valid-sealed g q ys z) t)

module _ {C : Type 0} {g : Geometry} {v m : List ℕ} {past : List StoredItem} {s : State} {k w : List Logged}
    (x : Ctx C g v m past s k w) where
  -- the image of a frame whose newest change is durable
  module _ (p : ℕ) (f : Found x p) (b : image_lsn (frame_bytes m (holder s p)) ≤ s.durable) where
    abbrev N : ℕ
    N = last_of p x.all

    abbrev B : List ℕ
    B = body_of p x.all

    pg : p ≤ 64
    pg = omega (arith, f.framed.high, (sized x).p-high)

    nm : last_of p x.all ≤ top_number
    nm = omega (arith, few x, last-le p x.all (length x.all))

    pub lsn-is : image_lsn (frame_bytes m (holder s p)) ≡ last_of p x.all
    lsn-is = rw f.framed.frame_is (frame-lsn g p N B pg nm (body-size x p))

    pub sealed-size : length (seal_image g (frame_bytes m (holder s p))) ≡ 256
    sealed-size = rw f.framed.frame_is (image-size g p N B pg nm (body-size x p))

    durable-le : last_of p x.all ≤ length k
    durable-le = omega (arith, x.al.log.durable-is, lsn-is)

    pub settled : Settled x.all (length k) p
    settled = last-below p x.all (length x.all) (length k) (omega (arith, len x)) durable-le

    pub image-is : Image g k (seal_image g (frame_bytes m (holder s p)))
    image-is = go (last_of p x.all) refl
      where
        go : (n : ℕ) → last_of p x.all ≡ n → Image g k (seal_image g (frame_bytes m (holder s p)))
        go zero q = absurd (omega (arith, f.framed.some))
        go (suc j) q =
            let le : suc j ≤ length k = omega (arith, durable-le) in
            rw f.framed.frame_is (record {
              page = p;
              low = f.framed.low;
              high = f.framed.high;
              number = seal_image-field g (frame_image p N B) (frame-size g p N B pg nm (body-size x p)) 2 0 (lit≤ tt)
                  ∙ frame_image-page p N B (body-size x p) (omega (arith, pg));
              good = record {
                place = j;
                lsn-is = image-lsn g p N B pg nm (body-size x p) ∙ q;
                below = le;
                page-is = durable-page x p j q le;
                body_is = image-body g p N B pg nm (body-size x p) ∙ durable-body x p j q le;
              };
            })

    pub sealed-valid : valid_image g p (seal_image g (frame_bytes m (holder s p))) ≡ true
    sealed-valid = rw f.framed.frame_is (seal_image-valid g (frame_image p N B) (frame-size g p N B pg nm (body-size x p)) p
        (frame_image-page p N B (body-size x p) (omega (arith, pg))) (frame_image-zeros p N B (body-size x p)))

    pub sealed-lsn : image_lsn (seal_image g (frame_bytes m (holder s p))) ≡ image_lsn (frame_bytes m (holder s p))
    sealed-lsn = rw f.framed.frame_is (image-lsn g p N B pg nm (body-size x p) ∙ sym (frame-lsn g p N B pg nm (body-size x p)))

    fine : Fine g k (seal_image g (frame_bytes m (holder s p)))
    fine = image-fine g k (seal_image g (frame_bytes m (holder s p))) image-is

    -- the note that a write or a backup leaves
    abbrev note_for : ℕ → ℕ → Note
    note_for kd sl = record { number = s.notes + 1; page = p; kind = kd; slot = sl; lsn = image_lsn (frame_bytes m (holder s p)) }

    mark-le : ((mark_at p x.ns (length x.ns)).written ≤ image_lsn (frame_bytes m (holder s p)))
        × ((mark_at p x.ns (length x.ns)).backup ≤ image_lsn (frame_bytes m (holder s p)))
    mark-le =
        let o = mark-ok g.pages g.slots k x.ns x.no.fit p (length x.ns) (omega arith) in
        let e : last_of p k ≡ last_of p x.all = sym (settled ∙ durable-last x p f.framed.low f.framed.high) in
        (omega (arith, o.wrote, lsn-is), omega (arith, o.backs, lsn-is))

    note-for : (kd sl : ℕ) → (is_written (note_for kd sl) ≡ true → sl ≡ 0)
        → (is_written (note_for kd sl) ≡ false → Backed g.slots x.ns (length x.ns) (note_for kd sl))
        → NoteOk g.pages g.slots k x.ns (length x.ns) (note_for kd sl)
    note-for kd sl wr bk = go (last_of p x.all) refl
      where
        go : (n : ℕ) → last_of p x.all ≡ n → NoteOk g.pages g.slots k x.ns (length x.ns) (note_for kd sl)
        go zero q = absurd (omega (arith, f.framed.some))
        go (suc j) q =
            let le : suc j ≤ length k = omega (arith, durable-le) in
            let j₁ : image_lsn (frame_bytes m (holder s p)) - 1 ≡ j = omega (arith, lsn-is) in
            record {
              number_is = omega (arith, x.al.notes-is);
              low = f.framed.low;
              high = f.framed.high;
              some = omega (arith, lsn-is);
              below = omega (arith, x.al.log.durable-is);
              page-is = rw j₁ (durable-page x p j q le);
              written = λ t. (wr t, mark-le.0);
              backed = bk;
            }

    pub write-note : NoteOk g.pages g.slots k x.ns (length x.ns) (note_for 1 0)
    write-note = note-for 1 0 (λ t. refl) (λ t. absurd (true-not-false refl t))

    pub backup-note : (sl : ℕ) → 1 ≤ sl → sl ≤ g.slots → slot_used sl s.index ≡ false
        → NoteOk g.pages g.slots k x.ns (length x.ns) (note_for 2 sl)
    backup-note sl lo hi t =
        note-for 2 sl (λ t. absurd (true-not-false t refl))
        (λ z. record {
          kind-is = refl;
          low = lo;
          high = hi;
          spare = slot-spare s.index x.all (length x.all) (length k) x.ns (length x.ns) x.al.index sl t;
          above = mark-le.1;
        })

    pub write_store : StoreOk C g v past k x.ns (page_at p) (seal_image g (frame_bytes m (holder s p))) k x.ns
    write_store =
        let lo = f.framed.low in
        let hi = f.framed.high in
        record {
          holds' = page-holds g v k x.hs x.ns x.no p (seal_image g (frame_bytes m (holder s p))) lo hi sealed-size (fine p);
          noted' = page-noted g v k x.hs x.ns x.no p (seal_image g (frame_bytes m (holder s p))) lo hi sealed-size (fine p);
          past' = past-cons g k past (one_item (page_at p) (seal_image g (frame_bytes m (holder s p)))) (λ z. image-is) x.ps;
          torn' = λ ys t n. (
            page-holds g v k x.hs x.ns x.no p ys lo hi n (torn-fine g k ys t p),
            page-noted g v k x.hs x.ns x.no p ys lo hi n (torn-fine g k ys t p),
          );
        }

    pub backup-store : (sl : ℕ) → 1 ≤ sl → sl ≤ g.slots → slot_used sl s.index ≡ false
        → StoreOk C g v past k x.ns (slot_at sl) (seal_image g (frame_bytes m (holder s p))) k x.ns
    backup-store sl lo hi un =
        let nobody : (q : ℕ) → 1 ≤ q → q ≤ g.pages → (mark_at q x.ns (length x.ns)).slot ≢ sl =
        λ q a b. slot-spare s.index x.all (length x.all) (length k) x.ns (length x.ns) x.al.index sl un q a
        (omega (arith, (sized x).p-high)) in
        record {
          holds' = slot-holds g v k x.hs x.ns x.no sl (seal_image g (frame_bytes m (holder s p))) lo hi sealed-size;
          noted' = slot-noted g v k x.hs x.ns x.no sl (seal_image g (frame_bytes m (holder s p))) lo hi sealed-size
              (λ q l₁ h₁ z. fine q) (λ c q a b e. absurd (nobody q a b e));
          past' = past-cons g k past (one_item (slot_at sl) (seal_image g (frame_bytes m (holder s p)))) (λ z. image-is) x.ps;
          torn' = λ ys t n. (
            slot-holds g v k x.hs x.ns x.no sl ys lo hi n,
            slot-noted g v k x.hs x.ns x.no sl ys lo hi n (λ q l₁ h₁ z. torn-fine g k ys t q)
                (λ c q a b e. absurd (nobody q a b e)),
          );
        }
