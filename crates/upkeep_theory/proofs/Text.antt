-- T3: a call that upkeep advises changes no page's text. Of its calls only Force and the refreshing put are steps of
-- the abstract log; Force
-- moves a change, and the put of the byte that stands there is the identity on a body.
use mathlib.Core.Path.{◌≡◌, refl, sym, ap, ◌∙◌, subst}
use mathlib.Core.Logic.{◌↔◌}
use mathlib.Core.Bool.{Bool, true, false, cond}
use mathlib.Core.List.{List, [], ◌∷◌, ◌++◌, append_assoc}
use Prim.Native.Nat.{ℕ, ◌≤◌}
use native.Mathlib.Omega.{arith}
use native.Mathlib.Decide.{ℕ_discrete}
use lib.Dec.{eqb}
use lib.ListN.{length, get_or, replicate, get_or-append}
use borrow.Author.Tests.{eqb-true}
use Rattle.laws.proofs.Tables.{by_cases}
use Rattle.model.specs.Tables.{first_of}
use Rattle.model.specs.Bytes.{bytes_of, byte_at}
use Rattle.model.specs.Geometry.{geometry_of}
use Rattle.model.specs.Change.{apply_change}
use Rattle.model.specs.Item.{frame_image}
use Rattle.model.specs.State.{frame_bytes, holder}
use Rattle.model.specs.Refusals.{change_rows}
use Rattle.model.specs.Outcome.{StoredItem}
use Rattle.model.specs.Calls.{Call, no_payload}
use Rattle.model.specs.declared.{change.Change.TheVariants.Put, geometry.Geometry.Geometry, state.State.State}
use Rattle.model.specs.declared.command.Command.TheVariants.{Load, Force, Write}
use Rattle.model.specs.declared.command.Command.TheVariants.{Backup, Note}
use Rattle.model.specs.AbstractLog.{Logged, AbstractLog, logged_change, move_first, step_call}
use Rattle.model.specs.History.{on, Machine, Event, perform, step, run, log_after, step_log, refused_in}
use Rattle.model.specs.Claim.{History, fresh, reached, log_of}
use Rattle.history.proofs.Logs.{last_of, body_of, number-hit, number-miss, body-hit, body-miss, replay-is, last-is}
use Rattle.history.proofs.Context.{Ctx, passed, in-range, body-size, Found, found-frame}
use Rattle.history.proofs.Reached.{live}
use Rattle.upkeep_policy.specs.Upkeep.{free_slot, refresh}
use Rattle.upkeep_policy.specs.UpkeepClaim.{extended, all_of, TextStays}
use Rattle.upkeep_theory.proofs.Shape.{Renewal, loads, backs, writes, puts, Advised, notes, forces, by_note}
use Rattle.upkeep_theory.proofs.Shape.{by_log, advised}

-- ---- the law: the put of the byte that stands there

pub put_same : (body rest : List ℕ) → 1 ≤ length body → apply_change (Put 0 1) (get_or body 0 0 ∷ rest) body ≡ body
unfolding apply_change
put_same [] rest h = absurd (omega arith)
put_same (y ∷ ys) rest h = refl

-- byte 8 of a frame is the first of its body
pub frame_byte : (p n : ℕ) (body : List ℕ) → 1 ≤ length body → byte_at (frame_image p n body) 8 ≡ get_or body 0 0
unfolding frame_image bytes_of
frame_byte p n body h = get_or-append body (replicate 4 0) 0 0 h

-- ---- histories with more events

pub run-append : (w : Machine) (es fs : List Event) → run w (es ++ fs) ≡ run (run w es) fs
unfolding run
run-append w [] fs = refl
run-append w (e ∷ es) fs = run-append (step w e) es fs

pub log-append : (w : Machine) (b : AbstractLog) (es fs : List Event)
    → log_after w b (es ++ fs) ≡ log_after (run w es) (log_after w b es) fs
unfolding run log_after
log-append w b [] fs = refl
log-append w b (e ∷ es) fs = log-append (step w e) (step_log w b e) es fs

pub log-more : (h : History) (e : Event) → log_of (extended h (e ∷ [])) ≡ step_log (reached h) (log_of h) e
unfolding reached log_of log_after
log-more h e = log-append (fresh h) _ h.events (e ∷ [])

-- ---- the refreshing put

-- the change that joins the log
abbrev pub put_of : List ℕ → State → ℕ → Logged
put_of m s p = logged_change p (Put 0 1) (byte_at (frame_bytes m (holder s p)) 8 ∷ replicate 43 0)

-- page q reads the same in both lists, and is blank in both or in none
pub record SameOf (q : ℕ) (l l' : List Logged) : Type 0 where
  pub body : body_of q l' ≡ body_of q l
  pub blank : (last_of q l' ≡ 0) ↔ (last_of q l ≡ 0)

pub same-list : (q : ℕ) (l l' : List Logged) → l' ≡ l → SameOf q l l'
same-list q l l' e =
    record { body = ap (body_of q) e; blank = (λ z. sym (ap (last_of q) e) ∙ z, λ z. ap (last_of q) e ∙ z) }

module _ {C : Type 0} {g : Geometry} {v m : List ℕ} {past : List StoredItem} {s : State} {k w : List Logged}
    (x : Ctx C g v m past s k w) where
  -- a put that is not refused is of a page in a frame
  pub put-found : (p : ℕ) → first_of (change_rows v m s p (Put 0 1)) ≡ 0 → Found x p
  unfolding change_rows
  put-found p e =
      let t = passed (change_rows v m s p (Put 0 1)) (omega arith) e in
      found-frame x p (in-range (geometry_of v).pages p t.1.1.1.0).0 t.1.1.1.1.1.0

  -- it is the identity on the body
  pub put-body : (p : ℕ) → Found x p
      → apply_change (Put 0 1) (put_of m s p).bytes (body_of p x.all) ≡ body_of p x.all
  put-body p f =
      let b : 1 ≤ length (body_of p x.all) = omega (arith, body-size x p) in
      let e : byte_at (frame_bytes m (holder s p)) 8 ≡ get_or (body_of p x.all) 0 0 =
      rw f.framed.frame_is (frame_byte p (last_of p x.all) (body_of p x.all) b) in
      rw e (put_same (body_of p x.all) [] b)

  pub put-text : (p : ℕ) → Found x p → (q : ℕ) → SameOf q x.all (x.all ++ (put_of m s p ∷ []))
  put-text p f q = elim (ℕ_discrete q p) [
    | yes e ↦ rw e (record {
      body = body-hit x.all (put_of m s p) ∙ put-body p f;
      blank = (
        λ z. absurd (omega (arith, number-hit x.all (put_of m s p))),
        λ z. absurd (omega (arith, f.framed.some)),
      );
    })
    | no n ↦ record {
      body = body-miss x.all (put_of m s p) q n;
      blank = (λ z. sym (number-miss x.all (put_of m s p) q n) ∙ z, λ z. number-miss x.all (put_of m s p) q n ∙ z);
    }
  ]

  -- ---- each call

  abbrev Same : ℕ → Call → Type 0
  Same q c = SameOf q (k ++ w) (let b = cond (refused_in (on m s) v c) (record { durable = k; pending = w })
      (step_call (record { durable = k; pending = w }) c) in b.durable ++ b.pending)

  still : (q : ℕ) (t : Bool) (b b' : AbstractLog) → b'.durable ++ b'.pending ≡ b.durable ++ b.pending
      → SameOf q (b.durable ++ b.pending) ((cond t b b').durable ++ (cond t b b').pending)
  still q true b b' e = same-list q (b.durable ++ b.pending) (b.durable ++ b.pending) refl
  still q false b b' e = same-list q (b.durable ++ b.pending) (b'.durable ++ b'.pending) e

  no_step : (q : ℕ) (t : Bool) → let b : AbstractLog = record { durable = k; pending = w } in
      SameOf q (k ++ w) ((cond t b b).durable ++ (cond t b b).pending)
  no_step q t = still q t (record { durable = k; pending = w }) (record { durable = k; pending = w }) refl

  moved : (d l : List Logged) → (move_first d l).durable ++ (move_first d l).pending ≡ d ++ l
  moved d [] = refl
  moved d (c ∷ l) = append_assoc d (c ∷ []) l

  pub force-text : (q : ℕ) → Same q (Force, no_payload)
  unfolding step_call
  force-text q = still q (refused_in (on m s) v (Force, no_payload)) (record { durable = k; pending = w }) (move_first k w) (moved k w)

  pub put_step : (p q : ℕ) → Same q (refresh m s p)
  unfolding step_call
  put_step p q = by_cases (eqb (first_of (change_rows v m s p (Put 0 1))) 0)
      (λ t. rw t (let y = put-text p (put-found p (eqb-true _ 0 t)) q in
      rw (← (append_assoc k w (put_of m s p ∷ [])), ← x.al.log.split) y))
      (λ t. rw t (same-list q (k ++ w) (k ++ w) refl))

  pub renewal-text : (r p : ℕ) (written : Bool) (c : Call) → Renewal v m s r p written c → (q : ℕ) → Same q c
  unfolding step_call
  renewal-text r p written c (loads h n e) q = rw e (no_step q (refused_in (on m s) v (Load p r, no_payload)))
  renewal-text r p written c (backs h t b n e) q =
      rw e (no_step q (refused_in (on m s) v (Backup p (free_slot (geometry_of v) s), no_payload)))
  renewal-text r p written c (writes h t d n e) q = rw e (no_step q (refused_in (on m s) v (Write p, no_payload)))
  renewal-text r p written c (puts h t d n e) q = rw e (put_step p q)

  pub advice-text : (r : ℕ) (c : Call) → Advised v m s r c → (q : ℕ) → Same q c
  unfolding step_call
  advice-text r c (notes a e) q = rw e (no_step q (refused_in (on m s) v (Note, no_payload)))
  advice-text r c (forces a b e) q = rw e (force-text q)
  advice-text r c (by_note a z o i lo hi t n) q = renewal-text r _ _ c n q
  advice-text r c (by_log a z o n1 n2 i lo hi t fi n) q = renewal-text r _ _ c n q

pub text-stays : TextStays
unfolding step_log
text-stays h legal m s e r c a p lo hi =
    let x = live h legal m s e in
    let y = advice-text x r c (advised _ m s r c a) p in
    let k = extended h (perform c ∷ []) in
    let l : log_of k ≡ cond (refused_in (reached h).power (reached h).volume c) (log_of h) (step_call (log_of h) c) =
    log-more h (perform c) in
    let l' : log_of k ≡ cond (refused_in (on m s) (reached h).volume c) (log_of h) (step_call (log_of h) c) = rw e at l in
    let z : SameOf p (all_of h) (all_of k) =
    subst (λ (b : AbstractLog). SameOf p (all_of h) (b.durable ++ b.pending)) (sym l') y in
    record {
      body = rw (replay-is p (all_of k), replay-is p (all_of h)) z.body;
      blank = rw (last-is p (all_of k), last-is p (all_of h)) z.blank;
    }
