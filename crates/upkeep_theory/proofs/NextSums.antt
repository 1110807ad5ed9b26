-- The numbers of a step from phase to phase: the calls left, and the log numbers left.
use mathlib.Core.Path.{◌≡◌}
use mathlib.Core.Bool.{Bool, true, false, cond}
use Prim.Native.Nat.{ℕ, suc, ◌+◌, ◌-◌, ◌≤◌, ◌<◌}
use native.Mathlib.Omega.{arith}
use Rattle.upkeep_theory.proofs.Measure.{rest_of, rest-note}

pub rest_eq : (W P k0 a a' n n' : ℕ) → a' ≡ a → n' ≡ n → rest_of W P a' (n' - k0) ≡ rest_of W P a (n - k0)
rest_eq W P k0 a a' n n' e f = rw (e, f)

pub left-eq : (W a a' : ℕ) → a' ≡ a → W - a' ≡ W - a
left-eq W a a' e = rw e

pub n-step : (x y N a : ℕ) → y ≡ x → 1 ≤ N → x ≤ N + a → y ≤ N - 1 + suc a
n-step x y N a e o h = omega arith

pub n-wait : (x y N : ℕ) → y ≡ x → x + 1 ≤ N → y ≤ N - 1 + 0
n-wait x y N e h = omega arith

pub n-some : (x N : ℕ) → x + 1 ≤ N → 1 ≤ N
n-some x N h = omega arith

pub n-one : (x N a c : ℕ) → c ≤ x → suc a ≤ c → x ≤ N + a → 1 ≤ N
n-one x N a c h o e = omega arith

pub n-low : (x N a b : ℕ) → x ≤ N + a → a ≤ b → x ≤ N + b
n-low x N a b h e = omega arith

pub d-wait : (d p l d' l' T : ℕ) → d' ≡ suc d → 1 ≤ p → l' ≡ l → d + p + l < T → d' + l' < T
d-wait d p l d' l' T e b f h = omega arith

pub d-put : (d p l d' l' T : ℕ) → d' ≡ suc d → 1 ≤ p → l' ≡ l → d + p + l ≤ T → d' + l' ≤ T
d-put d p l d' l' T e b f h = omega arith

pub d-app : (d p l d' p' l' T : ℕ) → d' ≡ d → p' ≡ p + 1 → p ≡ 0 → l' ≡ l → d + l < T → d' + p' + l' ≤ T
d-app d p l d' p' l' T e f z q h = omega arith

pub d-low : (d l T a : ℕ) → a ≤ 1 → d + l < T + (a - 2) → d + l < T
d-low d l T a o h = omega arith

pub d-high : (d l T a : ℕ) → a ≤ 3 → d + l < T + (a - 2) → d + l < T + 1
d-high d l T a o h = omega arith

pub d-zero : (d l T : ℕ) → d + l < T → d + l < T + 0
d-zero d l T h = omega arith

pub d-leave : (d l l' T e : ℕ) → l' ≡ l → d + l < T + e → d + l' < T + e
d-leave d l l' T e q h = omega arith

pub n-leave : (x y N : ℕ) (u : Bool) → y ≡ x → 1 ≤ N → x ≤ N + cond u 3 1 → y ≤ N - 1 + cond u 4 2
n-leave x y N true e o h = omega arith
n-leave x y N false e o h = omega arith

pub five-three : (x : ℕ) → 5 ≤ x → 3 ≤ x
five-three x h = omega arith

pub note-fin : (x y N : ℕ) (u : Bool) → y + cond u 5 3 ≡ x → x ≤ N + cond u 4 2 → (1 ≤ N) × (y ≤ N - 1 + 0)
note-fin x y N true e h = (omega arith, omega arith)
note-fin x y N false e h = (omega arith, omega arith)

pub note-sum : (W P A A' k k' k0 N : ℕ) (u : Bool) → k0 ≤ k → A ≤ k - k0 → A' ≡ A + cond u 1 0 → k' ≡ suc k → A' ≤ W
    → k' - k0 - A' ≤ P
    → rest_of W P A (k - k0) ≤ N + cond u 4 2 → (1 ≤ N) × (rest_of W P A' (k' - k0) ≤ N - 1 + 0)
note-sum W P A A' k k' k0 N u lo few e f a b h =
    let q : k' - k0 ≡ suc (k - k0) = omega arith in
    let a' : A + cond u 1 0 ≤ W = rw e at a in
    let b' : suc (k - k0) - (A + cond u 1 0) ≤ P = rw (q, e) at b in
    note-fin (rest_of W P A (k - k0)) (rest_of W P A' (k' - k0)) N u (rw (q, e) (rest-note W P A (k - k0) u few a' b')) h

pub note-low : (d d' W A A' T : ℕ) (u : Bool) → d' ≡ d → A' ≡ A + cond u 1 0 → A' ≤ W → d + (W - A) < T + cond u 1 0
    → d' + (W - A') < T
note-low d d' W A A' T true e f a h = omega arith
note-low d d' W A A' T false e f a h = omega arith
