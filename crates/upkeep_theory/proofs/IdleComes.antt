-- T2: idle comes.
use mathlib.Core.Path.{◌≡◌, refl, sym, subst}
use mathlib.Core.Logic.{◌≢◌, ◌⊎◌, ⊎_elim}
use mathlib.Core.Bool.{true, false, cond}
use mathlib.Core.List.{List}
use Prim.Native.Nat.{ℕ, ◌+◌, ◌-◌, ◌*◌, ◌≤◌, ◌<◌}
use native.Mathlib.Omega.{arith}
use native.Mathlib.Decide.{ℕ_discrete}
use lib.ListN.{length}
use Rattle.model.specs.Tables.{within}
use Rattle.model.specs.Geometry.{ring, top_number}
use Rattle.model.specs.Item.{is_written}
use Rattle.model.specs.Index.{entry_of}
use Rattle.model.specs.State.{frame_count, note_pending}
use Rattle.model.specs.Outcome.{StoredItem}
use Rattle.model.specs.AbstractLog.{AbstractLog}
use Rattle.model.specs.History.{Power, on, Machine}
use Rattle.model.specs.Claim.{fresh, reached, log_of}
use Rattle.model.specs.declared.{geometry.Geometry.Geometry, state.State.State}
use Rattle.history.proofs.Inv.{Inv}
use Rattle.history.proofs.Steps.{context}
use Rattle.history.proofs.Reached.{made_with}
use Rattle.upkeep_policy.specs.Upkeep.{reserve, ever_written, written_pages, upkeep_events}
use Rattle.upkeep_theory.proofs.Followed.{FrameIn, followed}
use Rattle.upkeep_policy.specs.UpkeepClaim.{IdleComes, Rests, bound}
use Rattle.upkeep_theory.proofs.Text.{run-append}
use Rattle.upkeep_theory.proofs.Tidy.{Tidy, since_written}
use Rattle.upkeep_theory.proofs.Damage.{TidyAt}
use Rattle.upkeep_theory.proofs.Caps.{none_or_some}
use Rattle.upkeep_theory.proofs.Fresh.{turns, followed-tidy}
use Rattle.upkeep_theory.proofs.Measure.{rest-most}
use Rattle.upkeep_theory.proofs.Phases.{rest_at, left_at, Phase, quiet, unforced, storing}
use Rattle.upkeep_theory.proofs.Comes.{End, comes}
use Rattle.model.specs.Types.{PendingNote, None, Some}

-- ---- the phase to begin with

n-begin : (x b : ℕ) → x ≤ b → x + 1 ≤ b + 1
n-begin x b h = omega arith

n-quiet : (x b : ℕ) → x ≤ b → x ≤ b + 1 + 0
n-quiet x b h = omega arith

n-storing : (x b c : ℕ) → x ≤ b → x ≤ b + 1 + c
n-storing x b c h = omega arith

d-begin : (d p W A T : ℕ) → p ≤ 1 → d + W + 2 ≤ T → d + p + (W - A) < T
d-begin d p W A T o h = omega arith

d-drop : (d p l T : ℕ) → d + p + l < T → d + l < T
d-drop d p l T h = omega arith

d-more : (d l T e : ℕ) → d + l < T → d + l < T + e
d-more d l T e h = omega arith

pub begin-phase : (g : Geometry) (W cuts : ℕ) (v m : List ℕ) (s : State) (r : ℕ) (t : Tidy g v s cuts)
    → s.durable + W + 2 ≤ top_number
    → (y : PendingNote) → s.note ≡ y → Phase g W t.z.k0 v m s r (bound W g.pages)
begin-phase g W cuts v m s r t nd (Some n) e =
    let a = rest-most W g.pages (since_written g v s.notes t.z.k0) (s.notes - t.z.k0) in
    let d = d-begin s.durable s.pending W (since_written g v s.notes t.z.k0) top_number
    t.sums.pending-one nd in
    storing n e (n-storing (rest_at g W t.z.k0 v s) (5 * W + 3 * g.pages) (cond (is_written n) 4 2) a)
    (d-more s.durable (left_at g W t.z.k0 v s) top_number (cond (is_written n) 1 0)
    (d-drop s.durable s.pending (left_at g W t.z.k0 v s) top_number d))
begin-phase g W cuts v m s r t nd None e =
    let a = rest-most W g.pages (since_written g v s.notes t.z.k0) (s.notes - t.z.k0) in
    let d = d-begin s.durable s.pending W (since_written g v s.notes t.z.k0) top_number
    t.sums.pending-one nd in
    let o : note_pending s.note ≡ false = rw e in
    elim (ℕ_discrete s.pending 0) [
      | yes z ↦ quiet 0 (omega arith) o z (n-quiet (rest_at g W t.z.k0 v s) (5 * W + 3 * g.pages) a)
          (d-drop s.durable s.pending (left_at g W t.z.k0 v s) top_number d) (λ c f. omega arith)
      | no z ↦ unforced (some s.pending z) (n-begin (rest_at g W t.z.k0 v s) (5 * W + 3 * g.pages) a) d
    ]
  where
    some : (p : ℕ) → p ≢ 0 → 1 ≤ p
    some p z = omega arith

-- where no page was ever written the cuts do not count
uncut : (g : Geometry) (v : List ℕ) (s : State) (cuts : ℕ) (t : Tidy g v s cuts)
    → ((p : ℕ) → 1 ≤ p → p ≤ g.pages → (entry_of s.index p).written ≡ 0)
    → Tidy g v s 0
uncut g v s cuts t h =
    record {
      z = t.z;
      b = t.b;
      notes = t.notes;
      near = t.near;
      log = t.log;
      sums = let e = t.none h in record {
        d-low = t.sums.d-low;
        u-one = t.sums.u-one;
        sum = t.sums.sum;
        pending-one = t.sums.pending-one;
        b-one = t.sums.b-one;
        puts = more (s.durable + s.pending) (t.z.d0 + t.z.u) (since_written g v s.notes t.z.k0) t.b e;
      };
      busy = t.busy;
      both = t.both;
      early = t.early;
      none = t.none;
    }
  where
    more : (a c w b : ℕ) → a ≡ c → a ≤ c + w + 0 + b
    more a c w b e = omega arith

module _ (g : Geometry) (ts : ring g ≡ true) (n2 : 2 ≤ g.notes) (r W most : ℕ) (room : g.pages + W + 2 ≤ g.notes)
    (reserves : (W ≡ 0) ⊎ (W + most ≤ reserve g)) (slots : g.pages < g.slots) where
  from-tidy : (v m : List ℕ) (past : List StoredItem) (s : State) (b : AbstractLog) → Inv ⊥ g v past (on m s) b
      → (cuts : ℕ) → W + cuts ≤ reserve g
      → Tidy g v s cuts → ever_written s ≤ W → within (frame_count (length m)) r ≡ true
      → s.durable + W + 2 ≤ top_number → s.notes + g.pages + W + 2 ≤ top_number
      → End r (bound W g.pages) (record { volume = v; power = on m s; past = past })
  from-tidy v m past s b i cuts cap t few fr nd nk =
      comes g ts n2 r W most room reserves slots cuts cap (bound W g.pages) v m past s b i t
      (omega (arith, t.notes.low)) few fr
      (begin-phase g W cuts v m s r t nd s.note refl)

  from-machine : (v m : List ℕ) (past : List StoredItem) (s : State) (b : AbstractLog) → Inv ⊥ g v past (on m s) b
      → (cuts : ℕ) → Tidy g v s cuts
      → written_pages v ≤ W → (written_pages v ≢ 0 → cuts ≤ most) → ever_written s ≤ W
      → within (frame_count (length m)) r ≡ true
      → s.durable + W + 2 ≤ top_number → s.notes + g.pages + W + 2 ≤ top_number
      → End r (bound W g.pages) (record { volume = v; power = on m s; past = past })
  from-machine v m past s b i cuts t wp h few fr nd nk = ⊎_elim
      (λ none. from-tidy v m past s b i 0 (⊎_elim (λ e. zero-cap W (reserve g) e) (λ e. less-cap W most (reserve g) e)
      reserves) (uncut g v s cuts t none) few fr nd nk)
      (λ some. from-tidy v m past s b i cuts (⊎_elim (λ e. absurd (some (none_of (written_pages v) W wp e)))
      (λ e. some-cap W cuts most (reserve g) (h some) e) reserves) t few fr nd nk)
      (none_or_some (context g v m past s b i))
    where
      zero-cap : (a c : ℕ) → a ≡ 0 → a + 0 ≤ c
      zero-cap a c e = omega arith

      less-cap : (a d c : ℕ) → a + d ≤ c → a + 0 ≤ c
      less-cap a d c e = omega arith

      some-cap : (a d e c : ℕ) → d ≤ e → a + e ≤ c → a + d ≤ c
      some-cap a d e c f h = omega arith

      none_of : (a c : ℕ) → a ≤ c → c ≡ 0 → a ≡ 0
      none_of a c f h = omega arith

  from-power : (v : List ℕ) (y : Power) (past : List StoredItem) (b : AbstractLog) (m : List ℕ) (s : State) → y ≡ on m s
      → Inv ⊥ g v past y b
      → (cuts : ℕ) → TidyAt g y v cuts → written_pages v ≤ W → (written_pages v ≢ 0 → cuts ≤ most) → FrameIn r y
      → ever_written s ≤ W
      → s.durable + W + 2 ≤ top_number → s.notes + g.pages + W + 2 ≤ top_number
      → End r (bound W g.pages) (record { volume = v; power = y; past = past })
  from-power v y past b m s e =
      subst (λ (y : Power). Inv ⊥ g v past y b
      → (cuts : ℕ) → TidyAt g y v cuts → written_pages v ≤ W → (written_pages v ≢ 0 → cuts ≤ most) → FrameIn r y
      → ever_written s ≤ W
      → s.durable + W + 2 ≤ top_number → s.notes + g.pages + W + 2 ≤ top_number
      → End r (bound W g.pages) (record { volume = v; power = y; past = past })) (sym e)
      (λ i cuts t wp h f few nd nk. from-machine v m past s b i cuts t wp h few f nd nk)

pub idle-comes : IdleComes
unfolding reached
idle-comes h legal r W C roomy z test m s e few nums =
    let n2 : 2 ≤ h.notes = omega (arith, roomy.notes) in
    let g = made_with h in
    let ka = followed-tidy h legal roomy.second roomy.turns n2 r W C roomy.notes roomy.reserve z
    (followed r W C (fresh h) 0 h.events test) in
    let w = reached h in
    let y = from-power g (turns h legal roomy.second roomy.turns n2) n2 r W C roomy.notes roomy.reserve
    (omega (arith, roomy.slots))
    w.volume w.power w.past (log_of h) m s e ka.inv ka.cuts ka.tidy ka.bounded.written
    ka.bounded.few ka.bounded.frame few
    nums.durable nums.notes in (
      y.0,
      y.1,
      subst (λ (u : Machine). Rests r u)
          (sym (run-append (fresh h) h.events (upkeep_events r y.0 (reached h)))) y.2,
    )
