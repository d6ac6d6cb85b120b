-- What a script uses of the limits on templates.
use Rattle.std.specs.Prelude.{◌+◌, nat_lt, if◌then◌else◌, List, [], fold, length}
use Rattle.qs_script.specs.declared.tree.tree.Item.{Item}
use Rattle.qs_script.specs.declared.tree.tree.Item.TheVariants.{Object, Client, Template, Started}
use Rattle.qs_messages.specs.declared.limit_use.templates.TemplateUse.{TemplateUse}

abbrev pub no_template : TemplateUse
no_template = record { count = 0; formals = 0; name = [] }

-- with one item more: the template with the most formals is named, and of equal ones the first
abbrev pub with_item : TemplateUse → Item → TemplateUse
with_item u (Object o) = u
with_item u (Client c) = u
with_item u (Started s) = u
with_item u (Template t) =
    if nat_lt u.formals (length t.formals)
    then record { count = u.count + 1; formals = length t.formals; name = t.name }
    else record { count = u.count + 1; formals = u.formals; name = u.name }

abbrev pub template_use : List Item → TemplateUse
template_use items = fold with_item no_template items
