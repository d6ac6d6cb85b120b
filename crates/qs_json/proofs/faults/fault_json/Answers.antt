use Rattle.std.proofs.Common.{◌≡◌, ◌++◌, ◌∙◌, None, Some, ap, codes, decimal, rules, subst}
use Rattle.std.specs.Io.KnownBytes.{Appends}
use Rattle.qs_json.proofs.Refusals.{refusal_of}
use Rattle.qs_json.proofs.faults.fault_json.Goals as goal

pub returns-in-None-clause-whole : goal.returns-in-None-clause-whole
returns-in-None-clause-whole g c = λ all.
    subst (Appends (g.W.Write.contents c.args.out.now) (g.W.Write.contents c.write_pieces.new.out))
    (refusal_of c.args.fault.now c.words_of-words.result.now None c.args.details.now c.words_of-words.ensures.words c.in-None.ensures.place)
    (c.write_pieces.ensures.whole all)

pub returns-in-Some-clause-whole : goal.returns-in-Some-clause-whole
returns-in-Some-clause-whole g c = λ all.
    let words = c.words_of-words.result.now in
    let details = c.args.details.now in
    let digits : c.as_bytes-digits.result.now ≡ decimal c.in-Some.line = search rules in
    subst (Appends (g.W.Write.contents c.args.out.now) (g.W.Write.contents c.write_pieces-in-Some.new.out))
    (ap (λ d. codes "{\"refused\":{\"fault\":\"" ++ (words ++ (codes "\",\"line\":" ++ (d ++ (details ++ codes "}}\n"))))) digits
    ∙ refusal_of c.args.fault.now words (Some c.in-Some.line) details c.words_of-words.ensures.words c.in-Some.ensures.place)
    (c.write_pieces-in-Some.ensures.whole all)
