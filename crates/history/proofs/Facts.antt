-- The values of the facts of every legal history.
use mathlib.Core.Path.{◌≡◌, sym, ap, ◌∙◌}
use mathlib.Core.Logic.{◌≢◌}
use mathlib.Core.Bool.{true}
use mathlib.Core.List.{List, ◌++◌}
use Prim.Native.Nat.{ℕ, suc, ◌≤◌}
use native.Mathlib.Omega.{arith}
use lib.ListN.{length}
use Rattle.model.specs.Geometry.{Place, page_at, slot_at, item}
use Rattle.model.specs.Item.{image_lsn, valid_image}
use Rattle.model.specs.Index.{entry_of}
use Rattle.model.specs.Scan.{index_of}
use Rattle.model.specs.AbstractLog.{Logged}
use Rattle.model.specs.Passes.{is_image}
use Rattle.model.specs.History.{on, stored_before}
use Rattle.model.specs.Claim.{History, Legal, reached, log_of, durable_of}
use Rattle.model.specs.declared.{state.Entry.Entry, state.State.State}
use Rattle.history.specs.Facts.{volume_of, heading_of, IsReplay, StoredImage, OwnImage, IndexEntry, SameEntry, Counts, LivePage, Facts}
use Rattle.history.proofs.Logs.{at, last_of, last-hit, last-ge, last-is, replay-is, last-take, replay-take}
use Rattle.history.proofs.Marks.{mark_at, slots_apart}
use Rattle.history.proofs.Entries.{entry_from}
use Rattle.history.proofs.Records.{ReplayOf, Faithful}
use Rattle.history.proofs.Sections.{volume-sized}
use Rattle.history.proofs.NoteIndex.{index_is}
use Rattle.history.proofs.Inv.{Inv}
use Rattle.history.proofs.Context.{Ctx, entry-is, last_entry, durable-last, found-frame}
use Rattle.history.proofs.WellFormed.{state-ok, memory-ok}
use Rattle.history.proofs.Refusals.{call-ordinary, load-durable, restart-right, restart-wrong, inspect-right}
use Rattle.history.proofs.Refusals.{inspect-wrong, inspect-durable}
use Rattle.history.proofs.Eviction.{releases-is, evicts}
use Rattle.history.proofs.Reached.{Undamaged, present, tied, live}

-- a replay in the words of the facts
is-replay : (p : ℕ) (k : List Logged) (x : List ℕ) → ReplayOf p k x → IsReplay p k x
is-replay p k x f =
    record {
      low = omega (arith, f.lsn-is);
      high = omega (arith, f.lsn-is, f.below);
      place = rw f.lsn-is (last-take p k (suc f.place) f.below ∙ last-hit p k f.place f.page-is);
      body = rw f.lsn-is (f.body_is ∙ sym (replay-take p k (suc f.place) f.below));
    }

module _ (h : History) (legal : Legal h) where
  abbrev i : Inv (Undamaged h) (present h) (reached h).volume (reached h).past (reached h).power (log_of h)
  i = tied h legal

  pub heading : heading_of h ≡ present h
  heading = i.holds.vol.geo

  p64 : h.pages ≤ 64
  p64 = (volume-sized (present h) (volume_of h) i.holds.vol).p-high

  -- a page's entry, as the volume gives it
  entry : (p : ℕ) → 1 ≤ p → p ≤ h.pages → entry_of (index_of (heading_of h) (volume_of h)) p
      ≡ entry_from (last_of p (durable_of h)) (last_of p (durable_of h)) (mark_at p i.ns (length i.ns))
  entry p lo hi =
      rw heading ((index_is (present h) (volume_of h) (durable_of h) i.holds i.ns i.noted).entry p lo (omega (arith, p64)))

  -- the machine that is on
  module _ (m : List ℕ) (s : State) (e : (reached h).power ≡ on m s) where
    ctx : Ctx (Undamaged h) (present h) (volume_of h) m (reached h).past s (durable_of h) (log_of h).pending
    ctx = live h legal m s e

    same-entry : (p : ℕ) → 1 ≤ p → p ≤ h.pages → SameEntry h s p
    same-entry p lo hi =
        let a = entry-is ctx p lo hi in
        let b : entry_of (index_of (heading_of h) (volume_of h)) p ≡ entry_from (last_of p (durable_of h)) (last_of p (durable_of h))
        (mark_at p ctx.ns (length ctx.ns)) =
        rw heading ((index_is (present h) (volume_of h) (durable_of h) ctx.hs ctx.ns ctx.no).entry p lo (omega (arith, p64))) in
        let d = durable-last ctx p lo hi in
        record {
          durable = ap (λ (y : Entry). y.durable) a ∙ (d ∙ sym (ap (λ (y : Entry). y.durable) b));
          written = ap (λ (y : Entry). y.written) a ∙ sym (ap (λ (y : Entry). y.written) b);
          slot = ap (λ (y : Entry). y.slot) a ∙ sym (ap (λ (y : Entry). y.slot) b);
          backup = ap (λ (y : Entry). y.backup) a ∙ sym (ap (λ (y : Entry). y.backup) b);
        }

    counts-are : Counts h s
    counts-are = record { durable = ctx.al.log.durable-is; pending = ctx.al.log.pending-is; few = ctx.al.log.few }

    live-page : (p : ℕ) → 1 ≤ p → p ≤ h.pages → LivePage h m s p
    live-page p lo hi =
        let sp : ctx.all ≡ durable_of h ++ (log_of h).pending = ctx.al.log.split in
        record {
          last = rw (last-is p (durable_of h ++ (log_of h).pending), ← sp) (last_entry ctx p lo hi);
          frame = λ t.
              rw (last-is p (durable_of h ++ (log_of h).pending), replay-is p (durable_of h ++ (log_of h).pending), ← sp)
              (found-frame ctx p lo (rw t)).framed.frame_is;
        }

  stored-image : (at : Place) (x : List ℕ) → is_image (heading_of h) at ≡ true → stored_before at x (reached h).past ≡ true → StoredImage h x
  stored-image at x r e =
      let f = i.past-ok at x (rw heading at r) e in
      record { page = f.page; low = f.low; high = f.high; number = f.number; is-replay = is-replay f.page (durable_of h) x f.good }

  module _ (p : ℕ) (lo : 1 ≤ p) (hi : p ≤ h.pages) where
    abbrev own : List ℕ
    own = item (heading_of h) (volume_of h) (page_at p)

    own-good : Faithful (heading_of h) p (durable_of h) own
    own-good = rw heading (i.holds.images p lo hi)

    not-above : valid_image (heading_of h) p own ≡ true → image_lsn own ≤ (entry_of (index_of (heading_of h) (volume_of h)) p).durable
    not-above t =
        let f = own-good t in
        omega (
          arith,
          f.lsn-is,
          ap (λ (y : Entry). y.durable) (entry p lo hi),
          last-ge p (durable_of h) (length (durable_of h)) f.place f.below f.page-is,
        )

    own-image : OwnImage h p
    own-image =
        record {
          is-replay = λ t. is-replay p (durable_of h) own (own-good t);
          not-above = not-above;
        }

    noted-page : IndexEntry h p
    noted-page =
        record {
          durable = ap (λ (y : Entry). y.durable) (entry p lo hi) ∙ sym (last-is p (durable_of h));
          backup = λ nz t.
              is-replay p (durable_of h) (item (heading_of h) (volume_of h) (slot_at (entry_of (index_of (heading_of h) (volume_of h)) p).slot))
              (copy (entry_of (index_of (heading_of h) (volume_of h)) p).slot
              (ap (λ (y : Entry). y.slot) (entry p lo hi)) nz t);
        }
      where
        copy : (b : ℕ) → b ≡ (mark_at p i.ns (length i.ns)).slot → b ≢ 0
            → Faithful (heading_of h) p (durable_of h) (item (heading_of h) (volume_of h) (slot_at b))
        copy b q nz = rw (heading, q) (i.noted.backups p lo hi (λ z. nz (q ∙ z)))

pub facts : Facts
facts =
    record {
      sound = λ h l m s e. record { memory = memory-ok (ctx h l m s e); state = state-ok (ctx h l m s e) };
      calls = λ h l m s e c o. call-ordinary (ctx h l m s e) c o;
      restarts = λ h l m. record {
        right = restart-right (present h) (volume_of h) (durable_of h) (i h l).holds (i h l).ns (i h l).noted m;
        wrong = restart-wrong (present h) (volume_of h) (durable_of h) (i h l).holds (i h l).ns (i h l).noted m;
      };
      answers = λ h l p buffer. record {
        right = inspect-right (present h) (volume_of h) (durable_of h) (i h l).holds (i h l).ns (i h l).noted p buffer;
        wrong = inspect-wrong (present h) (volume_of h) (durable_of h) (i h l).holds (i h l).ns (i h l).noted p buffer;
      };
      stored = stored-image;
      own = own-image;
      noted = noted-page;
      entries = same-entry;
      counts = counts-are;
      live = live-page;
      releases = releases-is;
      evicts = evicts;
      slots = λ h l p q p1 p2 q1 q2 nz e.
          let a : (entry_of (index_of (heading_of h) (volume_of h)) p).slot ≡ (mark_at p (i h l).ns (length (i h l).ns)).slot =
          ap (λ (y : Entry). y.slot) (entry h l p p1 p2) in
          let b : (entry_of (index_of (heading_of h) (volume_of h)) q).slot ≡ (mark_at q (i h l).ns (length (i h l).ns)).slot =
          ap (λ (y : Entry). y.slot) (entry h l q q1 q2) in
          slots_apart h.pages h.slots (durable_of h) (i h l).ns (i h l).noted.fit (p64 h l) (length (i h l).ns)
          (omega arith) p q p1 (omega (arith, p64 h l)) q1 (omega (arith, p64 h l))
          (λ z. nz (a ∙ z)) (sym a ∙ (e ∙ b));
      loads = λ h l m s e p f nz. load-durable (ctx h l m s e) p f (λ z. nz (last-is p (durable_of h) ∙ z));
      inspects = λ h l p buffer nz.
          inspect-durable (present h) (volume_of h) (durable_of h) (i h l).holds (i h l).ns (i h l).noted p buffer
          (λ lo hi z. nz (last-is p (durable_of h) ∙ (sym (ap (λ (y : Entry). y.durable) ((index_is (present h) (volume_of h) (durable_of h)
          (i h l).holds (i h l).ns (i h l).noted).entry p lo (omega (arith, p64 h l)))) ∙ z)));
    }
