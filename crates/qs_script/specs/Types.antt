-- The types of tokens and of the tree, with those variants that are named as they are, from one place.
pub use Rattle.qs_script.specs.declared.tokens.token.Token.{Token}
pub use Rattle.qs_script.specs.declared.tokens.lex.TokenFault.{TokenFault}
pub use Rattle.qs_script.specs.declared.tree.tree.Atom.{Atom}
pub use Rattle.qs_script.specs.declared.tree.tree.Atom.TheVariants.{Variable, Number}
pub use Rattle.qs_script.specs.declared.tree.tree.Expr.{Expr}
pub use Rattle.qs_script.specs.declared.tree.tree.Expr.TheVariants.{Plain, Binary}
pub use Rattle.qs_script.specs.declared.tree.tree.Operator.{Operator}
pub use Rattle.qs_script.specs.declared.tree.tree.Relation.{Relation}
pub use Rattle.qs_script.specs.declared.tree.tree.Test.{Test}
pub use Rattle.qs_script.specs.declared.tree.tree.Call.{Call}
pub use Rattle.qs_script.specs.declared.tree.tree.Block.{Block}
pub use Rattle.qs_script.specs.declared.tree.tree.Stmt.{Stmt}
pub use Rattle.qs_script.specs.declared.tree.tree.Stmt.TheVariants.{Command, Query, Assign, If, IfElse, Repeat, Leave}
pub use Rattle.qs_script.specs.declared.tree.tree.KindText.{KindText}
pub use Rattle.qs_script.specs.declared.tree.tree.KindText.TheVariants.{Account, Buffer, Grid}
pub use Rattle.qs_script.specs.declared.tree.tree.KindWord.{KindWord}
pub use Rattle.qs_script.specs.declared.tree.tree.Formal.{Formal}
pub use Rattle.qs_script.specs.declared.tree.tree.ObjectItem.{ObjectItem}
pub use Rattle.qs_script.specs.declared.tree.tree.ClientItem.{ClientItem}
pub use Rattle.qs_script.specs.declared.tree.tree.TemplateItem.{TemplateItem}
pub use Rattle.qs_script.specs.declared.tree.tree.StartedItem.{StartedItem}
pub use Rattle.qs_script.specs.declared.tree.tree.Item.{Item}
pub use Rattle.qs_script.specs.declared.tree.tree.Item.TheVariants.{Object, Client, Template, Started}
