-- `failing::fails` makes the test of `fails_at`.
use native.Mathlib.Omega.{arith}
use Rattle.convert.proofs.Places.{few}
use Rattle.convert.proofs.failing.fails.Goals as goal

pub passes-requires-clause-g_bound : goal.passes-requires-clause-g_bound
passes-requires-clause-g_bound c = let v = c.args.v.now in omega (arith, few _ _ v.valid v.read)
