-- How a proof tells two scripts apart.
use Rattle.std.specs.Prelude.{List}
use Rattle.std.specs.Coded.{Coded, codes, coded_list}
use Rattle.qs_script.specs.declared.tree.tree.Item.{Item}
use Rattle.qs_script.specs.tree.BlockCode.{blocks_code}

pub item_code : Coded Item
item_code = hlevel (codes, blocks_code)

abbrev pub script_code : Coded (List Item)
script_code = coded_list item_code
