-- The page's parts are those that were put, one after another.
use Rattle.std.proofs.Common.{◌≡◌, rules, subst}
use Rattle.qs_line.specs.language.Language.{IsHead}
use Rattle.qs_line.proofs.language.page.language_page.Goals as goal

pub returns : goal.returns
returns c =
    let begun : c.head.result.now ≡ c.put.new.out.items = search rules in
    record {
      page = record {
        head = c.put.new.out.items;
        accounts = c.put_kind.new.out.items;
        buffers = c.put_kind-2.new.out.items;
        grids = c.put_kind-3.new.out.items;
        tail = c.tail.result.now;
        beginning = subst IsHead begun c.head.ensures.head;
        account = search rules;
        buffer = search rules;
        grid = search rules;
        end = search rules;
        whole = search rules;
      };
    }
