-- `images::old_at` makes the two tests of `old_at`.
use Rattle.convert.proofs.Places.{few, under-count, old-is}
use Rattle.convert.proofs.images.old_at.Goals as goal

pub passes-words-requires : goal.passes-words-requires
passes-words-requires c =
    let v = c.args.v.now in
    let k = under-count _ v.geometry _ _ c.under.ensures c.requires (few _ _ v.valid v.read) in
    record { i_bound = k.0; g_bound = k.1 }

pub passes-bytes-requires : goal.passes-bytes-requires
passes-bytes-requires c =
    let v = c.args.v.now in
    let k = under-count _ v.geometry _ _ c.under-2.ensures c.requires (few _ _ v.valid v.read) in
    record { i_bound = k.0; g_bound = k.1 }

pub returns : goal.returns
returns c =
    old-is _ _ _ _ _ _ _ _ _ c.image-x.ensures c.under.ensures c.under-2.ensures c.passes-words.ensures c.passes-bytes.ensures
