use Rattle.std.proofs.Common.{◌∙◌, inr}
use Rattle.qs_messages.proofs.limits.tell_limits.Goals as goal

-- a front of these lines was written
pub returns-in-Ok-clause-told : goal.returns-in-Ok-clause-told
returns-in-Ok-clause-told g c =
    inr (c.as_slice.result.now, c.as_slice.ensures.value ∙ c.in-Ok.ensures.text, c.write_text.ensures.front)
