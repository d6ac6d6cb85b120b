use Rattle.std.proofs.Common.{◌≡◌, ap, arith, get_or, length}
use Rattle.qs_text.specs.TellApart.{IsOfWords}
use Rattle.qs_text.specs.audit.Words.{no_state}
use Rattle.qs_json.specs.audit.Pieces.{comma_at}
use Rattle.qs_json.specs.OutcomesJson.{object_json}
use Rattle.qs_json.proofs.Elements.{one_element_more}
use Rattle.qs_text.proofs.Joined.{each_place_more}
use Rattle.qs_text.proofs.Parts.{named}
use Rattle.qs_json.proofs.outcomes.put_objects.Goals as goal

pub loop-object-preserved : goal.loop-object-preserved
loop-object-preserved c = (
  one_element_more (object_json c.args.program.now c.args.standing.now) c.loop-object.object c.loop-object.invariant.0
      (named (ap comma_at c.from.ensures) c.in_ok-put_comma.ensures.ok) c.in_ok-put_object.ensures.ok,
  each_place_more (λ i. IsOfWords (get_or c.args.standing.now.states i no_state)) c.loop-object.object c.loop-object.invariant.1 c.in_ok-put_object.ensures.words,
)

pub returns : goal.returns
returns c =
    let all : c.loop-object.object ≡ length c.args.program.now.objects = omega arith in
    rw (← all) (record { ok = c.loop-object.invariant.0; words = c.loop-object.invariant.1 })
