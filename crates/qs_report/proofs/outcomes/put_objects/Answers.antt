use Rattle.std.proofs.Common.{◌≡◌, ◌++◌, ◌∙◌, ap, arith, length, get_or}
use Rattle.qs_text.proofs.Joined.{each_place_more, one_place_more}
use Rattle.qs_report.specs.OutcomesText.{object_line}
use Rattle.qs_text.specs.TellApart.{IsOfWords}
use Rattle.qs_text.specs.audit.Texts.{texts_up_to}
use Rattle.qs_text.specs.audit.Words.{no_state}
use Rattle.qs_report.proofs.outcomes.put_objects.Goals as goal

pub loop-object-preserved : goal.loop-object-preserved
loop-object-preserved c = (
  one_place_more (object_line c.args.program.now c.args.standing.now) c.loop-object.object _ _ _ c.loop-object.invariant.0 c.in_ok-put_object.ensures.ok,
  each_place_more (λ i. IsOfWords (get_or c.args.standing.now.states i no_state)) c.loop-object.object
      c.loop-object.invariant.1 c.in_ok-put_object.ensures.words,
)

pub returns : goal.returns
returns c =
    let all : c.loop-object.object ≡ length c.args.program.now.objects = omega arith in
    rw (← all) (record { ok = c.loop-object.invariant.0; words = c.loop-object.invariant.1 })
