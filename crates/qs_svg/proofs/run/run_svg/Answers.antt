use Rattle.qs_text.proofs.Parts.{all_that_is}
use Rattle.qs_svg.proofs.run.run_svg.Goals as goal

pub returns : goal.returns
returns c = record { picture = all_that_is c.new-out.ensures.items (rw c.layout_of-layout.ensures.layout at c.in_ok-put_picture.ensures.ok) }
