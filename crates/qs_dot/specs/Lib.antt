-- What an auditor reads: the promises and the calls of the surface are said with these.
pub mod Written
pub mod DotText
pub mod Charts
pub mod EndText
pub mod ShortText
pub mod ChartDot
-- What crates promise one another, what proofs use, and worked examples.
pub mod ChartLaws
pub mod node_lines
