-- How a proof tells two lists of blocks apart.
use Rattle.std.specs.Prelude.{List}
use Rattle.std.specs.Coded.{Coded, codes, coded_list}
use Rattle.qs_script.specs.declared.tree.tree.Block.{Block}
use Rattle.qs_script.specs.tree.TreeCode.{stmts_code}

pub block_code : Coded Block
block_code = hlevel (codes, stmts_code)

abbrev pub blocks_code : Coded (List Block)
blocks_code = coded_list block_code
