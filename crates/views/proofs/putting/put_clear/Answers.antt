use Rattle.views.proofs.Merged.{put_no_look, put_done}
use Rattle.views.proofs.putting.put_clear.Goals as goal

pub returns-in_default-cut_text : goal.returns-in_default-cut_text
returns-in_default-cut_text c = put_no_look c.requires.clear c.in-Some.ensures c.in_default-cut_text.ensures

pub returns : goal.returns
returns c = put_done c.requires.clear c.in-Some.ensures c.in-Some-cut_text.ensures c.in-Some-deliver.ensures
