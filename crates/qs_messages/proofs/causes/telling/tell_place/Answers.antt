use Rattle.std.proofs.Common.{IsTrue}
use Rattle.std.proofs.lemmas.Result.{on_ok_weaker}
use Rattle.qs_messages.specs.CheckTold.{IsSaidAt}
use Rattle.qs_messages.specs.ReadTold.{IsSpot, MayEnd}
use Rattle.qs_messages.specs.Spans.{tokens_in}
use Rattle.qs_messages.proofs.FormTold.{spot_where, spot_within}
use Rattle.qs_messages.proofs.causes.telling.tell_place.Goals as goal

pub put_said-requires : goal.put_said-requires
put_said-requires c =
    let fault = c.args.fault in
    let span = c.in_ok-said.said.span in
    let spot : IsSpot c.args.text.now c.args.tokens.now fault.place (IsTrue fault.ends) span = rw (← c.new.ensures.text, ← c.new.ensures.tokens) c.in_ok-said.ensures.spot in
    record { within = spot_within c.args.text.now c.args.tokens.now fault.place (IsTrue fault.ends) span c.requires.placed.1 spot }

pub returns : goal.returns
returns c =
    let text = c.args.text.now in
    let tokens = c.args.tokens.now in
    let fault = c.args.fault in
    let span = c.in_ok-said.said.span in
    let spot : IsSpot text tokens fault.place (IsTrue fault.ends) span = rw (← c.new.ensures.text, ← c.new.ensures.tokens) c.in_ok-said.ensures.spot in
    record {
      told = on_ok_weaker c.put_said.result (λ (said : IsSaidAt text span c.args.out.now.items c.put_said.new.out.items). record {
        tokens = tokens;
        placed = c.requires.placed;
        place = fault.place;
        there = c.requires.there;
        span = span;
        spot = spot_where text tokens fault.place (IsTrue fault.ends) (MayEnd (tokens_in tokens) fault.place) span c.requires.ends.0 spot;
        said = said;
      }) c.put_said.ensures.told;
    }
