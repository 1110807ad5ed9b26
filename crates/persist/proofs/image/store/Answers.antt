-- `persist::image::store` meets its contract.
use Rattle.persist.proofs.Parts.{image-put}
use Rattle.persist.proofs.image.store.Goals as goal

pub returns : goal.returns
returns c =
    let a = c.args in
    image-put a.volume.now a.memory.now a.at _ a.f a.g _ c.requires.1 c.frame_at-from.ensures
    c.store.ensures
