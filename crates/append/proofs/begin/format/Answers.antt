-- `append::begin::format` meets its contract.
use Rattle.append.proofs.Parts.{format-is}
use Rattle.append.proofs.begin.format.Goals as goal

pub returns : goal.returns
returns c =
    format-is c.args.x.now _ _ c.args.page c.args.lsn c.args.fill c.requires.0 (c.fill.ensures.after (λ y h. h)) c.build.ensures
