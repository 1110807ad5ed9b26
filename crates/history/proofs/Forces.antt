-- Force keeps the invariant: the oldest pending record becomes durable.
use mathlib.Core.Path.{◌≡◌, refl, ap, ◌∙◌, subst}
use mathlib.Core.Bool.{true, false, cond}
use mathlib.Core.List.{List, [], ◌∷◌, ◌++◌}
use Prim.Native.Nat.{ℕ, suc, ◌+◌, ◌≤◌, ◌<◌}
use native.Mathlib.Omega.{arith}
use lib.ListN.{length, get_or-append}
use lib.Dec.{eqb}
use borrow.Author.Tests.{eq-eqb, ne_eqb}
use Rattle.laws.proofs.Tables.{true-not-false, within-holds}
use Rattle.laws.proofs.Ring.{displaced-keep}
use Rattle.model.specs.Bytes.{field}
use Rattle.model.specs.Geometry.{most, log_slot, geometry_of, store}
use Rattle.model.specs.Item.{record_of}
use Rattle.model.specs.State.{pending_bytes}
use Rattle.model.specs.Outcome.{StoredItem, one_item, Outcome, volume_after, unchanged}
use Rattle.model.specs.Effects.{forced_state}
use Rattle.model.specs.AbstractLog.{Logged, move_first}
use Rattle.model.specs.declared.{geometry.Geometry.Geometry, answer.Answer.Answer, item.LogRecord.LogRecord}
use Rattle.model.specs.declared.state.State.{State}
use Rattle.model.specs.declared.answer.Answer.TheVariants.{Done, Nothing}
use Rattle.history.proofs.Logs.{no_logged, at_a, len_a}
use Rattle.history.proofs.Sections.{most-high}
use Rattle.history.proofs.Disk.{Spare}
use Rattle.history.proofs.Records.{rec_of, rec_of-is, Fair, valid-append}
use Rattle.history.proofs.Inv.{past-cons, past-append, PendingOk, note-append}
use Rattle.history.proofs.RecordStores.{record-size, force-holds, force-noted, torn-holds, torn-noted, rec-slots}
use Rattle.history.proofs.Stores.{pending-keep}
use Rattle.history.proofs.LogSteps.{oldest-is, oldest-fair, oldest-page, log-force, index-force}
use Rattle.history.proofs.FrameSteps.{frames-later}
use Rattle.history.proofs.Context.{Ctx, Preserved, sized, geo, len, keep_same}
use Rattle.history.proofs.Images.{StoreOk}

record-page : (r : List ℕ) → field 2 8 r ≡ (record_of r).page
unfolding record_of
record-page r = refl

module _ {C : Type 0} {g : Geometry} {v m : List ℕ} {past : List StoredItem} {s : State} {k w : List Logged}
    (x : Ctx C g v m past s k w) where
  -- the oldest pending record
  module _ (c : Logged) (r : List Logged) (e : w ≡ c ∷ r) where
    oldest : pending_bytes m (s.durable + 1) ≡ rec_of (k ++ (c ∷ [])) (length k)
    oldest = oldest-is g m s.durable s.pending k w x.all x.al.log c r e

    next : s.durable + 1 ≡ suc (length k)
    next = omega (arith, x.al.log.durable-is)

    room : length k < most g
    room = omega (arith, x.al.log.room, len x, ap length e)

    new-fair : Fair g.pages (k ++ (c ∷ [])) (length k)
    new-fair = oldest-fair g m s.durable s.pending k w x.all x.al.log c r e

    spare : (i : ℕ) → i < length k → length k ≡ i + g.records → Spare k x.ns i
    spare i b q = (x.al.displaced i (omega (arith, len x, ap length e))).1

    six : length (rec_of (k ++ (c ∷ [])) (length k)) ≡ 64
    six = record-size g v k x.hs x.ns x.no c room new-fair

    pub force-store : StoreOk C g v past k x.ns (log_slot g (s.durable + 1)) (pending_bytes m (s.durable + 1)) (k ++ (c ∷ [])) x.ns
    force-store =
        rw (oldest, next) (record {
          holds' = force-holds g v k x.hs x.ns x.no c room new-fair;
          noted' = force-noted g v k x.hs x.ns x.no c room new-fair spare;
          past' = past-cons g (k ++ (c ∷ [])) past (one_item (log_slot g (suc (length k))) (rec_of (k ++ (c ∷ [])) (length k)))
              (λ z. absurd (true-not-false z refl))
              (past-append g k (c ∷ []) past x.ps);
          torn' = λ ys f n. (torn-holds g v k x.hs x.ns x.no ys n f, torn-noted g v k x.hs x.ns x.no ys n f room spare);
        })

    force-pending : PendingOk C g (store g v (log_slot g (s.durable + 1)) (pending_bytes m (s.durable + 1)))
        (k ++ (c ∷ [])) x.ns s.note
    force-pending =
        rw (oldest, next)
        (pending-keep C g v (store g v (log_slot g (suc (length k))) (rec_of (k ++ (c ∷ [])) (length k))) k (k ++ (c ∷ [])) x.ns s.note
        (λ p y. valid-append g p k (c ∷ []) y) (λ y. note-append g.pages g.slots k (c ∷ []) x.ns (length x.ns) y)
        (rec-slots g v k x.hs x.ns x.no (rec_of (k ++ (c ∷ [])) (length k)) six) x.al.note-ok)

    -- the page that the record names
    page-low : (1 ≤ c.page) × (c.page ≤ g.pages)
    page-low = (rw (at_a k c) at new-fair.low, rw (at_a k c) at new-fair.high)

    page-read : field 2 8 (pending_bytes m (s.durable + 1)) ≡ c.page
    page-read =
        record-page (pending_bytes m (s.durable + 1))
        ∙ (rw oldest (ap (λ (y : LogRecord). y.page)
        (rec_of-is g.pages (k ++ (c ∷ [])) (length k) (sized x).p-high (omega (arith, room, most-high g (sized x))) new-fair).fields
        ∙ ap (λ (y : Logged). y.page) (at_a k c)))

    keep-forced : (an : Answer)
        → Preserved C g v past (record {
          answer = an;
          state = forced_state s (geometry_of v).pages (field 2 8 (pending_bytes m (s.durable + 1)));
          memory = m;
          stored = one_item (log_slot (geometry_of v) (s.durable + 1)) (pending_bytes m (s.durable + 1));
        }) (record { durable = k ++ (c ∷ []); pending = r })
    unfolding volume_after forced_state
    keep-forced an =
        let st = force-store in
        rw (geo x, page-read, within-holds g.pages c.page page-low.0 page-low.1) (record {
          ns = x.ns;
          holds = st.holds';
          noted = st.noted';
          past-ok = st.past';
          live = (
            x.all,
            record {
              F = x.al.F;
              memory = x.al.memory;
              log = log-force g m s.durable s.pending k w x.all x.al.log c r e;
              frames = frames-later g.pages x.al.F x.all (length k) s.frames m x.al.frames x.al.memory.high
                  (length (k ++ (c ∷ []))) (omega (arith, len_a k c)) (omega (arith, len_a k c, len x, ap length e));
              index = rw (len_a k c) (index-force s.index x.all (length k) x.ns (length x.ns) x.al.index c.page
                  (s.durable + 1) page-low.0
                  (omega (arith, page-low.1, (sized x).p-high))
                  (oldest-page g m s.durable s.pending k w x.all x.al.log c r e) next);
              displaced = displaced-keep g.records (length k) (length x.all) (Spare k x.ns) (Spare (k ++ (c ∷ [])) x.ns)
                  (λ i b z. rw (get_or-append k (c ∷ []) no_logged i b) z)
                  (length (k ++ (c ∷ []))) (omega (arith, len_a k c)) x.al.displaced;
              notes-is = x.al.notes-is;
              note-ok = force-pending;
            },
          );
        })

  abbrev pub forced : Outcome
  forced =
      cond (eqb s.pending 0) (unchanged Nothing m s)
      (record {
        answer = Done;
        state = forced_state s (geometry_of v).pages (field 2 8 (pending_bytes m (s.durable + 1)));
        memory = m;
        stored = one_item (log_slot (geometry_of v) (s.durable + 1)) (pending_bytes m (s.durable + 1));
      })

  pub none-pending : w ≡ [] → eqb s.pending 0 ≡ true
  none-pending e = eq-eqb s.pending 0 (x.al.log.pending-is ∙ ap length e)

  pub some-pending : (c : Logged) (r : List Logged) → w ≡ c ∷ r → eqb s.pending 0 ≡ false
  some-pending c r e = ne_eqb s.pending 0 (λ z. omega (arith, x.al.log.pending-is, ap length e))

  pub keep-force : (w' : List Logged) → w ≡ w' → Preserved C g v past forced (move_first k w)
  keep-force [] e = rw (none-pending e, e)
      (subst (λ (z : List Logged). Preserved C g v past (unchanged Nothing m s) (record { durable = k; pending = z })) e
      (keep_same x Nothing))
  keep-force (c ∷ r) e = rw (some-pending c r e, e) (keep-forced c r e Done)
