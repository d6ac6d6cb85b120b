-- The block with which a script passes the limit of its load, or of its weight.
use Rattle.std.specs.Prelude.{◌≡◌, ◌<◌, ◌≤◌, ◌+◌, ℕ, min, List, Option, Some, None, length, take, slice_index_or, sum_by}
use Rattle.qs_script.specs.declared.tree.tree.Item.{Item}
use Rattle.qs_check.specs.declared.fault_places.fault.CheckFault.{CheckFault}
use Rattle.qs_check.specs.declared.fault_places.fault.CheckFault.TheVariants as f
use Rattle.qs_program.specs.audit.Limits.{most_requests, most_steps}
use Rattle.qs_program.specs.audit.Loads.{weight_of}
use Rattle.qs_program.specs.audit.Program.{BlockShape, ClientShape, ProgramShape, block_load, no_block, no_client}
use Rattle.qs_check.specs.declared.excess.Measure.{Measure}
use Rattle.qs_check.specs.declared.excess.Measure.TheVariants.{Load, Weight}
use Rattle.qs_check.specs.declared.excess.Excess.{Excess}
use Rattle.qs_check.specs.audit.Checked.{excess_of}
use Rattle.qs_check.specs.Checked.{text_fault}
use Rattle.qs_check.specs.audit.resolution.Resolve.{program_of_items}

-- what is counted of a block
abbrev pub counted_by : Measure → BlockShape → ℕ
counted_by Load = block_load
counted_by Weight = λ b. weight_of b.body

abbrev pub limit_by : Measure → ℕ
limit_by Load = most_requests
limit_by Weight = most_steps

abbrev pub fault_by : Measure → CheckFault
fault_by Load = f.Load
fault_by Weight = f.Weight

-- what the blocks of some clients count together
abbrev pub counted_in : Measure → List ClientShape → ℕ
counted_in m clients = sum_by (λ c. sum_by (counted_by m) c.blocks) clients

-- the block of a client with which the limit is passed, where so much is counted before the client's blocks
pub record IsPassedIn (m : Measure) (c first : ℕ) (blocks : List BlockShape) (e : Excess) : Type 0 where
  pub measure : e.measure ≡ m
  pub client : e.client ≡ c
  pub block : e.block < length blocks
  pub before : e.before ≡ first + sum_by (counted_by m) (take e.block blocks)
  pub keeps : e.before ≤ limit_by m
  pub count : e.count ≡ min (counted_by m (slice_index_or blocks e.block no_block)) (limit_by m + 1)
  pub passes : limit_by m < e.before + e.count

-- the block with which some clients' blocks pass the limit
pub record IsPassedBy (m : Measure) (clients : List ClientShape) (e : Excess) : Type 0 where
  pub client : e.client < length clients
  pub passed : IsPassedIn m e.client (counted_in m (take e.client clients))
      (slice_index_or clients e.client no_client).blocks e

-- the block with which a program passes the limit of its load, or else of its weight
abbrev pub IsFirstExcess : ProgramShape → Option Excess → Type 0
IsFirstExcess p None = excess_of p ≡ None
IsFirstExcess p (Some e) = (excess_of p ≡ Some (fault_by e.measure)) × IsPassedBy e.measure p.clients e

-- that of a script's program, where the script's text has no fault
abbrev pub IsExcessOf : List Item → Option Excess → Type 0
IsExcessOf items None = text_fault items ≡ None → excess_of (program_of_items items) ≡ None
IsExcessOf items (Some e) = (text_fault items ≡ None) × IsFirstExcess (program_of_items items) (Some e)
