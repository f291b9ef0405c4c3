use Rattle.put_back.proofs.Wholes.{put_whole}
use Rattle.put_back.proofs.putting.PutBackGive.give.Goals as goal

pub returns : goal.returns
returns g c = put_whole c.requires (rw (c.all-old.ensures, c.all-new.ensures) at c.put_part.ensures)
