use Rattle.capi.proofs.ArgumentLaws.{format-fill, bytes-bounds, from-format, from-no-format, from-unheld}
use Rattle.capi.proofs.ArgumentLaws.{from-put, from-slide, from-none}
use native.Mathlib.Omega.{arith}
use Rattle.capi.proofs.change.change_from.Goals as goal

pub overflow_cast-result : goal.overflow_cast-result
overflow_cast-result c = record {
  fits = let a = c.args in
      omega (arith, format-fill a.kind a.offset a.size a.fill a.n c.if-format.true);
}

pub returns-then-format : goal.returns-then-format
returns-then-format c =
    let a = c.args in
    from-format a.kind a.offset a.size a.fill a.n c.if-kind-eq1.true c.if-format.true

pub returns-then-kind-eq1 : goal.returns-then-kind-eq1
returns-then-kind-eq1 c =
    let a = c.args in
    from-no-format a.kind a.offset a.size a.fill a.n c.if-kind-eq1.true c.if-format.false

pub returns-then-not-bytes : goal.returns-then-not-bytes
returns-then-not-bytes c =
    let a = c.args in
    from-unheld a.kind a.offset a.size a.fill a.n c.if-kind-eq1.false c.if-not-bytes.true

pub overflow_cast-result-then-kind-eq2 : goal.overflow_cast-result-then-kind-eq2
overflow_cast-result-then-kind-eq2 c = record {
  fits = let a = c.args in
      omega (arith, (bytes-bounds a.kind a.offset a.size a.fill a.n c.if-not-bytes.false).offset);
}

pub overflow_cast-result-then-kind-eq2-2 : goal.overflow_cast-result-then-kind-eq2-2
overflow_cast-result-then-kind-eq2-2 c = record {
  fits = let a = c.args in
      omega (arith, (bytes-bounds a.kind a.offset a.size a.fill a.n c.if-not-bytes.false).size);
}

pub returns-then-kind-eq2 : goal.returns-then-kind-eq2
returns-then-kind-eq2 c =
    let a = c.args in
    from-put a.kind a.offset a.size a.fill a.n c.if-kind-eq1.false c.if-not-bytes.false c.if-kind-eq2.true

pub overflow_cast-result-then-kind-eq3 : goal.overflow_cast-result-then-kind-eq3
overflow_cast-result-then-kind-eq3 c = record {
  fits = let a = c.args in
      omega (arith, (bytes-bounds a.kind a.offset a.size a.fill a.n c.if-not-bytes.false).offset);
}

pub overflow_cast-result-then-kind-eq3-2 : goal.overflow_cast-result-then-kind-eq3-2
overflow_cast-result-then-kind-eq3-2 c = record {
  fits = let a = c.args in
      omega (arith, (bytes-bounds a.kind a.offset a.size a.fill a.n c.if-not-bytes.false).size);
}

pub returns-then-kind-eq3 : goal.returns-then-kind-eq3
returns-then-kind-eq3 c =
    let a = c.args in
    from-slide a.kind a.offset a.size a.fill a.n c.if-kind-eq1.false
    c.if-not-bytes.false c.if-kind-eq2.false c.if-kind-eq3.true

pub returns : goal.returns
returns c =
    let a = c.args in
    from-none a.kind a.offset a.size a.fill a.n c.if-kind-eq1.false
    c.if-not-bytes.false c.if-kind-eq2.false c.if-kind-eq3.false
