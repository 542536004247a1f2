-- Every line of the table of starred examples holds: the definitions, opened to the last, compute to what document 01 says.
-- Assumes nothing.
use mathlib.Core.Path.{◌≡◌, refl}
use mathlib.Core.List.{map}
use lib.Count.{ones}
use Rattle.items.specs.ItemList.{decimals_of, found, in_range}
use Rattle.table.specs.Table.{xu_of, alarm, alarms_kept, table_fault, start_values, stored}
use Rattle.line.specs.Line.{keeps, heard, sent, bcc_from}
use Rattle.text.specs.Reading.{read_number, read_value}
use Rattle.text.specs.Writing.{fits, text, write_number, written}
use Rattle.phases.specs.Decision.{decided}
use Rattle.block.specs.Block.{block_item, block_value, block_number}
use Rattle.rkc.specs.State.{used, in_limits, with_more, with_end}
use Rattle.rkc.specs.Outcome.{performed, step_fault, byte_fault, received}
use Rattle.crc.specs.Crc.{shift, shifts, crc_from, crc16_of, framed, is_right}
use Rattle.registers.specs.Faults.{loopback_fault}
use Rattle.modbus.specs.Rules.{looping_back, obeying, acted}
use Rattle.call.specs.Call as call
use Rattle.rtu.specs.Frame as rtu
use Rattle.starred.specs.Starred.{Example, table, start, lent, after, block_bytes, place_of, of_block, of_written, of_frame, made}

pub starred : map (λ (e : Example). made e.deed) table ≡ map (λ (e : Example). e.result) table
unfolding ones found decimals_of in_range alarm alarms_kept table_fault start_values xu_of stored keeps heard sent bcc_from read_number read_value fits text write_number written decided block_item block_value block_number used in_limits with_more with_end performed step_fault byte_fault received shift shifts crc_from crc16_of framed is_right loopback_fault looping_back obeying acted call.call_fault call.refusal call.answered_as rtu.frame_fault rtu.acted_on start lent after block_bytes place_of of_block of_written of_frame made
starred = refl
