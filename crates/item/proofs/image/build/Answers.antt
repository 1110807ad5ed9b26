-- `image::build`: four fields written around a body make a frame's image.
use Rattle.item.proofs.Builds.{image-is}
use Rattle.item.proofs.image.build.Goals as goal

pub returns : goal.returns
returns c =
    image-is c.args.dst.now _ _ _ _ c.args.page c.args.lsn c.requires.0 c.put_u16.ensures c.put_u16-2.ensures
    c.put_u32.ensures c.put_u32-2.ensures
