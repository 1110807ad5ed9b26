-- Load keeps the invariant: a page in no frame is repaired to its replay, and its walk is never broken.
use mathlib.Core.Path.{◌≡◌, refl, sym, ap, ◌∙◌}
use mathlib.Core.Logic.{◌≢◌, ◌↔◌}
use mathlib.Core.Bool.{Bool, true, false, cond, not}
use mathlib.Core.List.{List, [], ◌∷◌, ◌++◌}
use Prim.Native.Nat.{ℕ, zero, suc, ◌-◌, ◌≤◌, ◌<◌}
use native.Mathlib.Omega.{arith}
use lib.ListN.{length}
use borrow.Author.Tests.{eqb-false}
use Rattle.laws.proofs.Tables.{by_cases, true-not-false}
use Rattle.model.specs.Tables.{Row, first_of, within}
use Rattle.model.specs.Bytes.{splice}
use Rattle.model.specs.Geometry.{top_number, geometry_of, valid_volume}
use Rattle.model.specs.Scan.{gone, index_of}
use Rattle.model.specs.Claim.{start_stands}
use Rattle.model.specs.Item.{frame_image}
use Rattle.model.specs.Index.{entry_of}
use Rattle.model.specs.Repair.{walk_of, is_broken, is_below, rebuilt, state_view}
use Rattle.model.specs.State.{frame_at, held, frame_count, valid_memory, well_formed, blank}
use Rattle.model.specs.Refusals.{load_rows, frame_blocked}
use Rattle.laws.proofs.Conditions.{chain_broken, chain_below}
use Rattle.model.specs.Outcome.{StoredItem, nothing, volume_after}
use Rattle.model.specs.Effects.{with_frame, with_frames}
use Rattle.model.specs.AbstractLog.{Logged}
use Rattle.model.specs.declared.{geometry.Geometry.Geometry, answer.Answer.Answer, state.State.State}
use Rattle.history.proofs.Logs.{last_at, last_of, body_of, last-le}
use Rattle.history.proofs.Leaf.{frame-size}
use Rattle.history.proofs.Inv.{past-cons, Settled, frame}
use Rattle.history.proofs.Memory.{frame-count, frame-memory, frame_same, frame-other, frame-pending}
use Rattle.history.proofs.FrameSteps.{frames-put}
use Rattle.history.proofs.Views.{view-unbroken, view-body, view-whole, view-granted, Unserved, below-exact, exact_below}
use Rattle.history.proofs.Marks.{mark_at}
use Rattle.history.proofs.Entries.{entry_from}
use Rattle.history.proofs.NoteIndex.{index_is}
use Rattle.history.proofs.LogScan.{first}
use Rattle.history.proofs.Context.{Ctx, Preserved, Passed, passed, in-range, sized, geo, few, body-size}
use Rattle.history.proofs.Context.{entry-is, last_entry, durable-last, durable-page, durable-body, nowhere}
use Rattle.history.proofs.Context.{unblocked}

-- the rows before a row whose number is answered do not hold, and it does
abbrev pub Others : ℕ → List Row → Type 0
Others n [] = Unit {0}
Others n (t ∷ ts) = (t.1 ≢ n) × Others n ts

pub none_other : (n : ℕ) → n ≢ 0 → (ts : List Row) → Others n ts → first_of ts ≢ n
none_other n nz [] o = λ z. nz (sym z)
none_other n nz (t ∷ ts) o = pick t.0 t.1 (first_of ts) o.0 (none_other n nz ts o.1)
  where
    pick : (b : Bool) (m k : ℕ) → m ≢ n → k ≢ n → cond b m k ≢ n
    pick true m k p q = p
    pick false m k p q = q

pub until : (n : ℕ) (ts : List Row) (b : Bool) (rest : List Row) → Others n ts → Others n rest → n ≢ 0 → first_of (ts ++ ((b, n) ∷ rest)) ≡ n
    → Passed ts × (b ≡ true)
until n [] b rest o r nz e = (tt, go b (first_of rest) (none_other n nz rest r) e)
  where
    go : (b : Bool) (k : ℕ) → k ≢ n → cond b n k ≡ n → b ≡ true
    go true k ne e = refl
    go false k ne e = absurd (ne e)
until n (t ∷ ts) b rest o r nz e =
    let q = go t.0 t.1 (first_of (ts ++ ((b, n) ∷ rest))) o.0 e in
    let u = until n ts b rest o.1 r nz q.1 in
    ((q.0, u.0), u.1)
  where
    go : (b : Bool) (m k : ℕ) → m ≢ n → cond b m k ≡ n → (b ≡ false) × (k ≡ n)
    go true m k ne e = absurd (ne e)
    go false m k ne e = (refl, e)

module _ {C : Type 0} {g : Geometry} {v m : List ℕ} {past : List StoredItem} {s : State} {k w : List Logged}
    (x : Ctx C g v m past s k w) where
  -- a page with a change and none that is pending
  module _ (page : ℕ) (lo : 1 ≤ page) (hi : page ≤ g.pages) (st : Settled x.all (length k) page) (nz : last_of page x.all ≢ 0) where
    abbrev Restored : ℕ → Type 0
    Restored p =
        (is_broken (walk_of g p (state_view g v s p)).stop ≡ false)
        × (is_below (walk_of g p (state_view g v s p)).stop ≡ false
        → rebuilt g p (state_view g v s p) ≡ frame_image p (last_of p x.all) (body_of p x.all))
        × (gone g v ≡ false → is_below (walk_of g p (state_view g v s p)).stop ≡ false)
        × (start_stands g v (entry_of (index_of g v) p) p ≡ true → is_below (walk_of g p (state_view g v s p)).stop ≡ false)

    restored : (n : ℕ) → last_of page x.all ≡ n → Restored page
    restored zero q = absurd (nz q)
    restored (suc j) q =
        let d : last_at page x.all (length k) ≡ suc j = sym st ∙ q in
        let b : suc j ≤ length k = omega (arith, last-le page x.all (length k)) in
        let vb = view-body g v k x.hs x.ns x.no (suc j) j page lo hi b (durable-page x page j q b) in
        let vu = view-unbroken g v k x.hs x.ns x.no (suc j) j page lo hi b (durable-page x page j q b) in
        let vw = view-whole g v k x.hs x.ns x.no (suc j) j page lo hi b (durable-page x page j q b) in
        let vg = view-granted g v k x.hs x.ns x.no (suc j) j page lo hi b (durable-page x page j q b) in
        let last : last_of page k ≡ suc j = sym (durable-last x page lo hi) ∙ d in
        let found : entry_of (index_of g v) page ≡ entry_from (last_of page k) (last_of page k) (mark_at page x.ns (length x.ns)) =
        (index_is g v k x.hs x.ns x.no).entry page lo (omega (arith, (sized x).p-high)) in
        rw (x.al.log.durable-is, entry-is x page lo hi, d, q, found)
        (vu, λ z. ap (frame_image page (suc j)) (vb z ∙ sym (durable-body x page j q b)), vw, λ t. vg t last)

    pub load-unbroken : chain_broken g v s page ≡ false
    load-unbroken = (restored (last_of page x.all) refl).0

    pub load-image : chain_below g v s page ≡ false
        → rebuilt g page (state_view g v s page)
        ≡ frame_image page (last_of page x.all) (body_of page x.all)
    load-image = (restored (last_of page x.all) refl).1

    -- 23, exactly
    exactly : (n : ℕ) → last_of page x.all ≡ n
        → (chain_below g v s page ≡ true) ↔ Unserved g v k (entry_of (index_of g v) page) page (first g v k x.hs x.ns x.no)
    exactly zero q = absurd (nz q)
    exactly (suc j) q =
        let d : last_at page x.all (length k) ≡ suc j = sym st ∙ q in
        let b : suc j ≤ length k = omega (arith, last-le page x.all (length k)) in
        let pg = durable-page x page j q b in
        let last : last_of page k ≡ suc j = sym (durable-last x page lo hi) ∙ d in
        let found : entry_of (index_of g v) page ≡ entry_from (last_of page k) (last_of page k) (mark_at page x.ns (length x.ns)) =
        (index_is g v k x.hs x.ns x.no).entry page lo (omega (arith, (sized x).p-high)) in
        rw (x.al.log.durable-is, entry-is x page lo hi, d, found) (
          below-exact g v k x.hs x.ns x.no (suc j) j page lo hi b pg last,
          exact_below g v k x.hs x.ns x.no (suc j) j page lo hi b pg last,
        )

    pub load-exact : (chain_below g v s page ≡ true) ↔ Unserved g v k (entry_of (index_of g v) page) page (first g v k x.hs x.ns x.no)
    load-exact = exactly (last_of page x.all) refl

    pub load-whole : gone g v ≡ false → chain_below g v s page ≡ false
    load-whole = (restored (last_of page x.all) refl).2

    pub load-granted : start_stands g v (entry_of (index_of g v) page) page ≡ true → chain_below g v s page ≡ false
    load-granted = (restored (last_of page x.all) refl).3

  -- what a load that is not refused has been asked
  pub record Loaded (page f : ℕ) : Type 0 where
    pub low : 1 ≤ page
    pub high : page ≤ g.pages
    pub frame-low : 1 ≤ f
    pub frame-high : f ≤ x.al.F
    pub some : last_of page x.all ≢ 0
    pub absent : (j : ℕ) → j < x.al.F → (frame s.frames j).page ≢ page
    pub settled : Settled x.all (length k) page
    pub spare : (frame s.frames (f - 1)).page ≢ 0 → Settled x.all (length k) (frame s.frames (f - 1)).page

  loaded-from : (page f : ℕ) → not (within (geometry_of v).pages page) ≡ false → not (within (frame_count (length m)) f) ≡ false
      → blank s page ≡ false → held s page ≡ false
      → frame_blocked s f ≡ false → Loaded page f
  loaded-from page f t₁ t₂ t₃ t₄ t₅ =
      let r : (1 ≤ page) × (page ≤ g.pages) = rw (geo x) at (in-range (geometry_of v).pages page t₁) in
      let q : (1 ≤ f) × (f ≤ x.al.F) = rw (frame-count x.al.F m x.al.memory) at (in-range (frame_count (length m)) f t₂) in
      record {
        low = r.0;
        high = r.1;
        frame-low = q.0;
        frame-high = q.1;
        some = λ z. eqb-false (entry_of s.index page).last 0 t₃ (last_entry x page r.0 r.1 ∙ z);
        absent = nowhere x page t₄;
        settled = x.al.frames.away page r.0 r.1 (nowhere x page t₄);
        spare = unblocked x f q.0 q.1 t₅;
      }

  pub loads : (page f : ℕ) → first_of (load_rows v m s page f) ≡ 0 → Loaded page f
  unfolding load_rows
  loads page f e =
      let t = passed (load_rows v m s page f) (omega arith) e in
      loaded-from page f t.1.1.1.0 t.1.1.1.1.0 t.1.1.1.1.1.0 t.1.1.1.1.1.1.0 t.1.1.1.1.1.1.1.0

  pub loads-above : (page f : ℕ) → first_of (load_rows v m s page f) ≡ 0 → chain_below g v s page ≡ false
  unfolding load_rows
  loads-above page f e =
      let t = passed (load_rows v m s page f) (omega arith) e in
      rw (geo x) at t.1.1.1.1.1.1.1.1.1.0

  -- 19 never comes
  pub never-broken : (page f : ℕ) → first_of (load_rows v m s page f) ≢ 19
  unfolding load_rows
  never-broken page f e =
      let h : Geometry = geometry_of v in
      let u = until 19
      ((not (valid_volume v), 1) ∷ (not (valid_memory (length m)), 2) ∷ (not (well_formed h (frame_count (length m)) s), 2)
      ∷ (not (within h.pages page), 3)
      ∷ (not (within (frame_count (length m)) f), 4) ∷ (blank s page, 7) ∷ (held s page, 9) ∷ (frame_blocked s f, 10) ∷ [])
      (chain_broken h v s page) ((chain_below h v s page, 23) ∷ []) (omega arith) (omega arith) (λ z. omega arith) e in
      let t = u.0 in
      let l = loaded-from page f t.1.1.1.0 t.1.1.1.1.0 t.1.1.1.1.1.0 t.1.1.1.1.1.1.0
      t.1.1.1.1.1.1.1.0 in
      let b : chain_broken g v s page ≡ true = rw (geo x) at u.1 in
      true-not-false b (load-unbroken page l.low l.high l.settled l.some)

  -- 23 comes of the walk alone
  pub below-is : (page f : ℕ) → first_of (load_rows v m s page f) ≡ 23 → Loaded page f × (chain_below g v s page ≡ true)
  unfolding load_rows
  below-is page f e =
      let h : Geometry = geometry_of v in
      let u = until 23
      ((not (valid_volume v), 1) ∷ (not (valid_memory (length m)), 2) ∷ (not (well_formed h (frame_count (length m)) s), 2)
      ∷ (not (within h.pages page), 3)
      ∷ (not (within (frame_count (length m)) f), 4) ∷ (blank s page, 7) ∷ (held s page, 9) ∷ (frame_blocked s f, 10)
      ∷ (chain_broken h v s page, 19) ∷ [])
      (chain_below h v s page) [] (omega arith) tt (λ z. omega arith) e in
      let t = u.0 in
      let l = loaded-from page f t.1.1.1.0 t.1.1.1.1.0 t.1.1.1.1.1.0 t.1.1.1.1.1.1.0
      t.1.1.1.1.1.1.1.0 in
      (l, rw (geo x) at u.1)

  -- and only where record 1 has left and the proviso fails
  pub below-only : (page f : ℕ) → first_of (load_rows v m s page f) ≡ 23
      → (gone g v ≡ true) × (start_stands g v (entry_of (index_of g v) page) page ≡ true → ⊥)
  below-only page f e =
      let q = below-is page f e in
      let l = q.0 in (
        by_cases (gone g v) (λ z. z) (λ z. absurd (true-not-false q.1 (load-whole page l.low l.high l.settled l.some z))),
        λ z. true-not-false q.1 (load-granted page l.low l.high l.settled l.some z),
      )

  -- of a Load, 23 is exact: it tells that the page cannot be rebuilt, and a page that cannot be is not loaded
  pub below-unserved : (page f : ℕ) → first_of (load_rows v m s page f) ≡ 23
      → (1 ≤ length k) × Unserved g v k (entry_of (index_of g v) page) page (first g v k x.hs x.ns x.no)
  below-unserved page f e =
      let q = below-is page f e in
      let l = q.0 in
      let some : last_of page x.all ≢ 0 = l.some in (
        omega (arith, l.settled, last-le page x.all (length k)),
        (load-exact page l.low l.high l.settled l.some).0 q.1,
      )

  pub loaded-served : (page f : ℕ) → first_of (load_rows v m s page f) ≡ 0
      → Unserved g v k (entry_of (index_of g v) page) page (first g v k x.hs x.ns x.no) → ⊥
  loaded-served page f e u =
      let l = loads page f e in
      true-not-false ((load-exact page l.low l.high l.settled l.some).1 u) (loads-above page f e)

  pub keep_load : (page f : ℕ) (an : Answer) (t : Bool) → first_of (load_rows v m s page f) ≡ 0
      → Preserved C g v past (record {
        answer = an;
        state = with_frames s (with_frame s f page t) s.note;
        memory = splice m (frame_at f) (rebuilt (geometry_of v) page
            (state_view (geometry_of v) v s page));
        stored = nothing;
      }) (record { durable = k; pending = w })
  unfolding volume_after
  keep_load page f an t e =
      let l = loads page f e in
      let im = load-image page l.low l.high l.settled l.some (loads-above page f e) in
      let pg : page ≤ 64 = omega (arith, l.high, (sized x).p-high) in
      let nm : last_of page x.all ≤ top_number = omega (arith, few x, last-le page x.all (length x.all)) in
      let sz = frame-size g page (last_of page x.all) (body_of page x.all) pg nm (body-size x page) in
      rw (geo x, im) (go l (frame_image page (last_of page x.all) (body_of page x.all)) sz refl)
    where
      go : Loaded page f → (image : List ℕ) → length image ≡ 256 → image ≡ frame_image page (last_of page x.all) (body_of page x.all)
          → Preserved C g v past (record {
            answer = an;
            state = with_frames s (with_frame s f page t) s.note;
            memory = splice m (frame_at f) image;
            stored = nothing;
          }) (record { durable = k; pending = w })
      go l image sz im =
          record {
            ns = x.ns;
            holds = x.hs;
            noted = x.no;
            past-ok = past-cons g k past nothing tt x.ps;
            live = (
              x.all,
              record {
                F = x.al.F;
                memory = frame-memory x.al.F m x.al.memory f image l.frame-low l.frame-high sz;
                log = record {
                  split = x.al.log.split;
                  durable-is = x.al.log.durable-is;
                  pending-is = x.al.log.pending-is;
                  room = x.al.log.room;
                  fair = x.al.log.fair;
                  few = x.al.log.few;
                  pends = λ i a b. frame-pending x.al.F m x.al.memory f image l.frame-low l.frame-high sz (suc i)
                      ∙ x.al.log.pends i a b;
                };
                frames = frames-put g.pages x.al.F x.all (length k) s.frames m x.al.frames x.al.memory.high x.all
                    (splice m (frame_at f) image) (f - 1) page t
                    (omega (arith, l.frame-low, l.frame-high))
                    (record {
                      low = l.low;
                      high = l.high;
                      some = let nz = l.some in omega arith;
                      frame_is = let e : suc (f - 1) ≡ f = omega (arith, l.frame-low) in
                          rw e (frame_same x.al.F m x.al.memory f image l.frame-low l.frame-high sz ∙ im);
                    })
                    (λ i b ne. frame-other x.al.F m x.al.memory f image l.frame-low l.frame-high sz (suc i)
                    (omega arith) (omega arith))
                    (λ q ne. (refl, refl, refl)) (λ i b ne. l.absent i b) (λ a b. l.spare a);
                index = x.al.index;
                displaced = x.al.displaced;
                notes-is = x.al.notes-is;
                note-ok = x.al.note-ok;
              },
            );
          }
