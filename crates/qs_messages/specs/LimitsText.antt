-- What a script uses of each limit of the language, and how much is left, as lines of text.
use Rattle.std.specs.Prelude.{ℕ, ◌-◌, List, ◌++◌, codes, decimal, length, nat_eq, if◌then◌else◌}
use Rattle.qs_script.specs.audit.tree.Limits.{longest_text, most_levels}
use Rattle.qs_program.specs.audit.Limits.{most_blocks, most_clients, most_objects, most_requests, most_steps, most_turns, most_variables}
use Rattle.qs_program.specs.Limits.{most_formals}
use Rattle.qs_program.specs.audit.Program.{ProgramShape, client_at, whole_load, whole_weight}
use Rattle.qs_check.specs.audit.fault_places.Places.{most_templates}
use Rattle.qs_messages.specs.declared.limit_use.greatest.OfBlock.TheVariants.{Nesting, Turns}
use Rattle.qs_messages.specs.declared.limit_use.greatest.OfClient.TheVariants.{Blocks, Variables}
use Rattle.qs_messages.specs.declared.limit_use.greatest.Use.{Use}
use Rattle.qs_messages.specs.declared.limit_use.templates.TemplateUse.{TemplateUse}
use Rattle.qs_messages.specs.Greatest.{most_of_blocks, most_of_clients}

-- how much is used, of how much, and what is left. The lines do not unfold by themselves, so that a proof about all of
-- them sees no bytes.
unfoldable pub used_text : ℕ → ℕ → List ℕ → List ℕ
used_text used most what =
    codes "limits: " ++ decimal used ++ codes " of " ++ decimal most ++ codes " " ++ what ++ codes ", "
    ++ decimal (most - used) ++ codes " left"

-- of a limit of the whole script
unfoldable pub use_line : ℕ → ℕ → List ℕ → List ℕ
use_line used most what = used_text used most what ++ codes "\n"

-- the line's end, with a name before it where something is used
abbrev pub end_text : ℕ → List ℕ → List ℕ
end_text used name = if nat_eq used 0 then codes "\n" else codes " (" ++ name ++ codes ")\n"

-- of a limit of each client: of the one that uses the most
unfoldable pub client_line : ProgramShape → Use → ℕ → List ℕ → List ℕ
client_line p u most what = used_text u.amount most what ++ end_text u.amount (client_at p u.client).name

-- of a limit of each block: of the one that uses the most, with its client and its number
unfoldable pub block_line : ProgramShape → Use → ℕ → List ℕ → List ℕ
block_line p u most what =
    used_text u.amount most what ++ end_text u.amount ((client_at p u.client).name ++ codes " " ++ decimal u.block)

abbrev pub item_lines : ℕ → ProgramShape → List ℕ
item_lines bytes p =
    use_line bytes longest_text (codes "bytes")
    ++ use_line (length p.objects) most_objects (codes "objects")
    ++ use_line (length p.clients) most_clients (codes "clients")

abbrev pub template_lines : TemplateUse → List ℕ
template_lines t =
    use_line t.count most_templates (codes "templates")
    ++ used_text t.formals most_formals (codes "formals of a template") ++ end_text t.formals t.name

abbrev pub client_lines : ProgramShape → List ℕ
client_lines p =
    client_line p (most_of_clients Blocks p) most_blocks (codes "blocks of a client")
    ++ client_line p (most_of_clients Variables p) most_variables (codes "variables of a client")

abbrev pub block_lines : ProgramShape → List ℕ
block_lines p =
    block_line p (most_of_blocks Nesting p) (most_levels - 1) (codes "levels of nesting")
    ++ block_line p (most_of_blocks Turns p) most_turns (codes "turns of a repeat")

-- a line for each limit of the language: of the text's bytes, of the templates, and of the program
abbrev pub limits_text : ℕ → TemplateUse → ProgramShape → List ℕ
limits_text bytes t p =
    item_lines bytes p
    ++ template_lines t
    ++ client_lines p
    ++ block_lines p
    ++ use_line (whole_load p) most_requests (codes "requests")
    ++ use_line (whole_weight p) most_steps (codes "steps")
