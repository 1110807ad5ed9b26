-- What the definition of Load says in each of its cases, and what the code needs to know once it walks.
use mathlib.Core.Path.{◌≡◌, refl, sym, ap, ◌∙◌}
use mathlib.Core.Bool.{Bool, false, not}
use mathlib.Core.List.{List}
use Prim.Native.Nat.{ℕ, suc, ◌+◌, ◌-◌, ◌≤◌}
use native.Mathlib.Omega.{arith}
use lib.ListN.{length, take, drop, get_or}
use borrow.Author.Tests.{eq-eqb, ne_eqb, eqb-false, not-false}
use borrow.Rule.Slice.PartMut.{put_mid}
use Rattle.laws.proofs.Tables.{none-at, within-bounds}
use Rattle.laws.proofs.Parts.{put_item, lent_length}
use Rattle.laws.proofs.Places.{valid-facts}
use Rattle.laws.proofs.Chain.{run-few}
use Rattle.laws.proofs.WellFormed.{ready, frame-within}
use Rattle.laws.proofs.Frames.{entry-of}
use Rattle.load.specs.Rows.{Finds}
use Rattle.load.proofs.Rows.{early_rows, walk-decides}
use Rattle.model.specs.Tables.{first_of}
use Rattle.model.specs.Bytes.{splice}
use Rattle.model.specs.Geometry.{geometry_of, most}
use Rattle.model.specs.Index.{entry_of}
use Rattle.model.specs.Scan.{first_held}
use Rattle.model.specs.Repair.{view_of, walk_of, class_in, repair_of, rebuilt, state_view}
use Rattle.model.specs.State.{frame_count, frame_at}
use Rattle.model.specs.Refusals.{load_rows, load_tail, walk_tail}
use Rattle.model.specs.Outcome.{reply_of, decided}
use Rattle.model.specs.Effects.{with_frame, with_frames, is_good, load_done}
use Rattle.model.specs.Calls.{load_of}
use Rattle.model.specs.declared.{geometry.Geometry.Geometry, state.Entry.Entry, state.State.State, answer.Repair.Repair}
use Rattle.model.specs.declared.{answer.Reply.Reply, answer.Answer.Answer}
use Rattle.model.specs.declared.answer.Answer.TheVariants.{Refused, Repaired}
use Rattle.volume.specs.declared.Volume.{Volume}
use Rattle.repair.specs.Walked.{Ready, walked_of, view_for}
use Rattle.repair.specs.declared.Target.{Target}
use Rattle.repair.specs.declared.walk.Walked.{Walked}

-- ---- the frame's bytes as they are lent

pub frame-length : (m : List ℕ) (at frame : ℕ) → at ≡ frame_at frame → frame_at frame + 256 ≤ length m
    → length (take (at + 256 - at) (drop at m)) ≡ 256
frame-length m at frame ea h = lent_length m at 256 (omega arith)

pub put_back : (m x y : List ℕ) (at frame : ℕ) → at ≡ frame_at frame → length x ≡ 256 → x ≡ y
    → put_mid at (at + 256 - at) m x ≡ splice m (frame_at frame) y
put_back m x y at frame ea l ex = put_item m at 256 x y (ap length (sym ex) ∙ l) ex ∙ ap (λ (i : ℕ). splice m i y) ea

-- ---- past the rows before the walk

-- what is known where none holds
pub record Open (v m : List ℕ) (s : State) (page frame : ℕ) : Type 0 where
  pub ready : Ready (geometry_of v) (first_held (geometry_of v) v s.durable) (entry_of s.index page) page
  pub page-high : page ≤ 64
  pub frame-low : 1 ≤ frame
  pub frame-high : frame ≤ 16
  pub room : frame_at frame + 256 ≤ length m

pub opened : (v m : List ℕ) (s : State) (page frame : ℕ) → first_of (early_rows v m s page frame) ≡ 0 → Open v m s page frame
unfolding early_rows
opened v m s page frame h =
    let rows = load_tail (geometry_of v) (frame_count (length m)) s page frame in
    let k = ready v m s rows h in
    let f = valid-facts v k.volume in
    let at : (i : ℕ) → (get_or rows i (false, 0)).0 ≡ false =
    none-at rows
    (eqb-false 3 0 refl, (eqb-false 4 0 refl, (eqb-false 7 0 refl, (eqb-false 9 0 refl, (eqb-false 10 0 refl, tt))))) k.rest in
    let p = within-bounds (geometry_of v).pages page (not-false _ (at 0)) in
    let w = within-bounds (frame_count (length m)) frame (not-false _ (at 1)) in
    let q = (entry-of (geometry_of v) (frame_count (length m)) s k.state f.p-high page p.0 p.1).numbers in
    let few : s.durable ≤ most (geometry_of v) = omega (arith, k.state.room) in
    let run : suc s.durable - first_held (geometry_of v) v s.durable ≤ (geometry_of v).records =
    run-few (geometry_of v) v s.durable few in
    record {
      ready = record { low = p.0; high = p.1; durable = omega (arith, q.count); slot = q.slot };
      page-high = omega (arith, p.1, f.p-high);
      frame-low = w.0;
      frame-high = omega (arith, w.1, k.memory.high);
      room = frame-within m k.memory frame w.0 w.1;
    }

-- ---- the walk's target

module _ (v : List ℕ) (s : State) (page : ℕ) (u : Volume) (f : ℕ) (e : Entry) (p : ℕ) (u-is : u.bytes.now ≡ v)
    (f-is : f ≡ first_held (geometry_of v) v s.durable) (e-is : e ≡ entry_of s.index page) (p-is : p ≡ page) where
  geometry-is : u.geometry ≡ geometry_of v
  geometry-is = u.read ∙ ap geometry_of u-is

  -- what is made of the target is made of the volume and the state
  same : {A : Type 0} (h : Geometry → List ℕ → ℕ → Entry → ℕ → A) → h u.geometry u.bytes.now f e p
      ≡ h (geometry_of v) v (first_held (geometry_of v) v s.durable) (entry_of s.index page) page
  same h =
      ap (λ (g : Geometry). h g u.bytes.now f e p) geometry-is ∙ ap (λ (x : List ℕ). h (geometry_of v) x f e p) u-is
      ∙ ap (λ (x : ℕ). h (geometry_of v) v x e p) f-is
      ∙ ap (λ (x : Entry). h (geometry_of v) v (first_held (geometry_of v) v s.durable) x p) e-is
      ∙ ap (h (geometry_of v) v (first_held (geometry_of v) v s.durable) (entry_of s.index page)) p-is

  pub target-ready : Ready (geometry_of v) (first_held (geometry_of v) v s.durable) (entry_of s.index page) page → Ready u.geometry f e p
  target-ready r = rw (geometry-is, f-is, e-is, p-is) r

  module _ (c : Walked) (c-is : c ≡ walked_of u.geometry p (view_of u.geometry u.bytes.now f e p)) (m : List ℕ) (frame : ℕ) where
    -- the walk decides
    pub decides : first_of (early_rows v m s page frame) ≡ 0 → first_of (load_rows v m s page frame) ≡ first_of (walk_tail c.stop)
    unfolding walked_of
    decides none =
        walk-decides v m s page frame none
        ∙ sym (ap (λ (x : Walked). first_of (walk_tail x.stop)) c-is
        ∙ same (λ g x i y k. first_of (walk_tail (walk_of g k (view_of g x i y k)).stop)))

module _ (v : List ℕ) (s : State) (page : ℕ) (t : Target) (c : Walked) (k : Finds v s page t c) where
  made : {A : Type 0} (h : Geometry → List ℕ → ℕ → Entry → ℕ → A) → h t.volume.geometry t.volume.bytes.now t.first t.entry t.page
      ≡ h (geometry_of v) v (first_held (geometry_of v) v s.durable) (entry_of s.index page) page
  made h = same v s page t.volume t.first t.entry t.page k.volume k.first k.entry k.number h

-- ---- what the call leaves

module _ (v m : List ℕ) (s : State) (page frame : ℕ) where
  pub refused : (n : ℕ) (a : Answer) → a ≡ Refused n → n ≡ first_of (load_rows v m s page frame) → (n ≡ 0 → ⊥)
      → (◌≡◌ {A = Reply} (record { answer = a; state = s }) (reply_of (load_of v m s page frame)))
      × (m ≡ (load_of v m s page frame).memory)
  unfolding decided load_done
  refused n a a-is e ne =
      rw (a-is, ne_eqb (first_of (load_rows v m s page frame)) 0 (λ z. ne (e ∙ z)))
      (ap (λ (k : ℕ). record { answer = Refused k; state = s }) e, refl)

  pub done : (f : Target) (c : Walked) → Finds v s page f c → 0 ≡ first_of (load_rows v m s page frame)
      → (dirty : Bool) (r : Repair) (w : List ℕ) (t : State)
      → r ≡ repair_of f.volume.geometry f.page (view_for f)
      → w ≡ splice m (frame_at frame) (rebuilt f.volume.geometry f.page (view_for f))
      → dirty ≡ not (is_good r.class)
      → t ≡ with_frames s (with_frame s frame page dirty) s.note
      → (◌≡◌ {A = Reply} (record { answer = Repaired r; state = t }) (reply_of (load_of v m s page frame)))
      × (w ≡ (load_of v m s page frame).memory)
  unfolding decided load_done repair_of
  done f c k none dirty r w t er ew eq et =
      let view = state_view (geometry_of v) v s page in
      let r' : r ≡ repair_of (geometry_of v) page view = er ∙ made v s page f c k (λ g x i y j. repair_of g j (view_of g x i y j)) in
      let q : dirty ≡ not (is_good (class_in (geometry_of v) page view)) = eq ∙ ap (λ (x : Repair). not (is_good x.class)) r' in
      rw (eq-eqb (first_of (load_rows v m s page frame)) 0 (sym none)) (
        ap (λ (x : Repair). record { answer = Repaired x; state = t }) r'
            ∙ ap (λ (x : State). record { answer = Repaired (repair_of (geometry_of v) page view); state = x })
            (et ∙ ap (λ (x : Bool). with_frames s (with_frame s frame page x) s.note) q),
        ew ∙ made v s page f c k (λ g x i y j. splice m (frame_at frame) (rebuilt g j (view_of g x i y j))),
      )
