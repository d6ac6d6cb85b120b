use Rattle.qs_dot.proofs.Common.{◌++◌, ◌∙◌, ap, codes, on_ok_weaker, close_text, colours_text, layout_text}
use Rattle.qs_dot.proofs.Parts.{then}
use Rattle.qs_dot.proofs.chart_text.put_look.Goals as goal

pub returns : goal.returns
returns c =
    let old = c.args.out.now.items in
    let first = codes "digraph outcomes {\n" in
    let near = close_text c.args.places in
    let put_colours = c.in_ok-put-2.ensures.ok ∙ ap (λ l. c.put.new.out.items ++ l) c.colours.ensures.colours in
    let put_near = c.in_ok-put-3.ensures.ok ∙ ap (λ l. c.put-2.new.out.items ++ l) c.close.ensures.close in
    let coloured = then old first colours_text c.put.new.out.items c.put-2.new.out.items c.in_ok-put.ensures.ok put_colours in
    let nearer = then old (first ++ colours_text) near c.put-2.new.out.items c.put-3.new.out.items coloured put_near in
    record {
      ok = on_ok_weaker c.put-4.result
          (λ h.
          then old (first ++ colours_text ++ near) (layout_text c.args.places) c.put-3.new.out.items c.put-4.new.out.items nearer
          (h ∙ ap (λ l. c.put-3.new.out.items ++ l) c.layout.ensures.layout))
          c.put-4.ensures.ok;
    }
