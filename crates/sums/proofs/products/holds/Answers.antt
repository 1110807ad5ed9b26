-- `products::holds`: the two sums, each raised, judge the checksum of n words with two behind them.
use mathlib.Core.Path.{◌≡◌, ap}
use mathlib.Core.Bool.{Bool}
use mathlib.Core.List.{List}
use Prim.Native.Nat.{ℕ, suc, ◌*◌, ◌-◌, ◌≤◌}
use native.Mathlib.Omega.{arith}
use lib.ListN.{length}
use mir.Syntax.{w32}
use mir.Val.{to_z}
use Rattle.laws.proofs.Fields.{Bytes}
use Rattle.model.specs.Bytes.{field}
use Rattle.model.specs.Checksum.{sealed}
use Rattle.sums.proofs.Judged.{failed, passed, y-rest, First, Second, first-raised, second-raised}
use Rattle.sums.proofs.Judged.{first-fails, rest-low, rest-high, second-fails, both-pass}
use Rattle.sums.proofs.Pairs.{raised-fits, raised-cast, raised-abs}
use Rattle.sums.proofs.products.holds.Given.{Over}
use Rattle.sums.proofs.products.holds.Goals.{After-weigh-s}
use Rattle.sums.proofs.products.holds.Goals as goal

module _ (g : Over) (c : After-weigh-s g) where
  abbrev n : ℕ
  n = g.row.WORDS - 2

  abbrev item : List ℕ
  item = c.args.r.now

  words : g.row.WORDS ≡ suc (suc n)
  words = omega (arith, c.requires.constants.few.0)

  behind : 2 * g.row.WORDS - 4 ≡ 2 * n
  behind = omega arith

  bytes : Bytes item
  bytes i = (c.type_inv.r i).fits

  long : 2 * n ≤ length item
  long = omega (arith, c.requires.sized)

  first : First n item g.row.WORDS c.weigh-s.result.twice (to_z w32 g.row.HIGH)
  first =
      let q = c.requires.constants in
      first-raised n item bytes g.row.WORDS words q.few.1 _ _ c.weigh-s.ensures.twice q.first

  second : Second n item g.row.WORDS c.weigh-s.result.all (to_z w32 g.row.LOW)
  second =
      let q = c.requires.constants in
      second-raised n item bytes g.row.WORDS words q.few.1 _ _ c.weigh-s.ensures.all q.second

  -- the stored words' place
  is-four : {x : ℕ} → x ≡ field 4 (2 * g.row.WORDS - 4) item → x ≡ field 4 (2 * n) item
  is-four e = rw (← behind) e

  is-sealed : {t : Bool} → t ≡ sealed (2 * n) item → t ≡ sealed (2 * g.row.WORDS - 4) item
  is-sealed e = rw behind e

pub overflow_add-s : goal.overflow_add-s
overflow_add-s g c = raised-fits (first g (goal.at.overflow_add-s g c).After-weigh-s)

pub overflow_cast-s : goal.overflow_cast-s
overflow_cast-s g c = raised-cast (first g (goal.at.overflow_cast-s g c).After-weigh-s)

pub returns-then-not-multiple_of_modulus : goal.returns-then-not-multiple_of_modulus
returns-then-not-multiple_of_modulus g c =
    let u = (goal.at.returns-then-not-multiple_of_modulus g c).After-weigh-s in
    let t = failed c.if-not-multiple_of_modulus.true c.multiple_of_modulus.ensures (raised-abs (first g u)) in
    is-sealed g u (first-fails (n g u) (item g u) (bytes g u) (long g u) t)

pub overflow_add-s-2 : goal.overflow_add-s-2
overflow_add-s-2 g c = raised-fits (second g (goal.at.overflow_add-s-2 g c).After-weigh-s)

pub overflow_cast-s-2 : goal.overflow_cast-s-2
overflow_cast-s-2 g c = raised-cast (second g (goal.at.overflow_cast-s-2 g c).After-weigh-s)

pub overflow_sub-s : goal.overflow_sub-s
overflow_sub-s g c =
    let u = (goal.at.overflow_sub-s g c).After-weigh-s in
    rw (raised-abs (second g u)) (rest-low (n g u) (item g u) (bytes g u) (long g u) c.four-c.result (is-four g u c.four-c.ensures))

pub overflow_sub-s-2 : goal.overflow_sub-s-2
overflow_sub-s-2 g c =
    let u = (goal.at.overflow_sub-s-2 g c).After-weigh-s in
    rw (raised-abs (second g u)) (rest-high (n g u) (item g u) (bytes g u) (long g u) c.four-c.result (is-four g u c.four-c.ensures))

pub returns-then-not-multiple_of_modulus-2 : goal.returns-then-not-multiple_of_modulus-2
returns-then-not-multiple_of_modulus-2 g c =
    let u = (goal.at.returns-then-not-multiple_of_modulus-2 g c).After-weigh-s in
    let f = c.four-c in
    let t =
    failed c.if-not-multiple_of_modulus-2.true c.multiple_of_modulus-2.ensures (ap (y-rest f.result) (raised-abs (second g u))) in
    is-sealed g u (second-fails (n g u) (item g u) (bytes g u) (long g u) f.result (is-four g u f.ensures) t)

pub returns : goal.returns
returns g c =
    let u = (goal.at.returns g c).After-weigh-s in
    let f = c.four-c in
    is-sealed g u
    (both-pass (n g u) (item g u) (bytes g u) (long g u) f.result (is-four g u f.ensures)
    (passed c.if-not-multiple_of_modulus.false c.multiple_of_modulus.ensures (raised-abs (first g u)))
    (passed c.if-not-multiple_of_modulus-2.false c.multiple_of_modulus-2.ensures (ap (y-rest f.result) (raised-abs (second g u)))))
