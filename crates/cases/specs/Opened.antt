-- Every definition that stays shut until it is named, opened by one name: a declaration that says `unfolding opened`
-- computes with all of them. Made by tools/opened.py.
use Rattle.model.specs.AbstractLog.{replay_on, last_place_from, step_call, step_cut}
use Rattle.model.specs.Bytes.{le, bytes_of, part, splice, all_zero, starts_with, equal_bytes}
use Rattle.model.specs.Carry.{count_of, restamps, AllDone}
use Rattle.model.specs.Change.{change_of, change_fits, apply_change}
use Rattle.model.specs.Checksum.{checksum_from, byte_sum_from, with_sum, sum_holds, sealed_run, image_sum, image_sealed}
use Rattle.model.specs.Claim.{reached, log_of}
use Rattle.model.specs.Effects.{appended_state, appended_memory, begin_done, load_done, change_done, forced_state}
use Rattle.model.specs.Effects.{force_done, write_outcome, backup_done, release_done, noted_state, restamp_done}
use Rattle.model.specs.Geometry.{geometry_of, valid_counts, valid_volume, empty_volume, item, store, store_heading}
use Rattle.model.specs.History.{stored_before, step, carriable, allowed, step_log, fresh_machine, all_allowed, run}
use Rattle.model.specs.History.{log_after}
use Rattle.model.specs.Index.{empty_index, enter_note, slot_used}
use Rattle.model.specs.Item.{valid_image, valid_somewhere, frame_image, record_of, record_layout, record_bytes}
use Rattle.model.specs.Item.{encode_change, apply_record, note_of, note_layout, note_bytes}
use Rattle.model.specs.Outcome.{volume_after, decided}
use Rattle.model.specs.Passes.{valid_as_noted, only_old, first_from, first_old, old_left}
use Rattle.model.specs.Refusals.{make_rows, restart_rows, begin_rows, load_rows, change_rows, force_rows, write_rows}
use Rattle.model.specs.Refusals.{backup_rows, release_rows, note_rows, start_carry_rows, restamp_rows}
use Rattle.model.specs.Refusals.{finish_carry_rows, inspect_rows}
use Rattle.model.specs.Repair.{class_of, chain_record, walk_from, walk_of, replay_chain, rebuilt_body, repair_of}
use Rattle.model.specs.Restart.{restart_state, restart_of, make_of, inspect_of}
use Rattle.model.specs.Scan.{highest, count_in, first_in, rest_zero, ends_in, durable_count, first_held, log_index}
use Rattle.model.specs.Scan.{record_fits, valid_log, gone, note_count, first_note, note_index, note_follows, note_fits}
use Rattle.model.specs.Scan.{valid_notes}
use Rattle.model.specs.State.{valid_memory, zero_state, record_needed, log_full, note_needed, notes_full, holder_from}
use Rattle.model.specs.State.{pending_note_fits, frame_fits, entry_fits, page_fits, well_formed}
use Rattle.model.specs.Tables.{tabulate, every}
use Rattle.reports.specs.Archive.{segment_bytes, archive_bytes, size_of, archive_rows, archive_of, valid_segment}
use Rattle.reports.specs.Archive.{records_from, valid_from, parted_from, replay_records, last_number_in, area_from}
use Rattle.reports.specs.Archive.{read_rows, read_of, pages_from, cut_into, valid_segments}
use Rattle.reports.specs.Examine.{examine_rows, examine_of}
use Rattle.reports.specs.Forecast.{forecast_of, tell_forecast}
use Rattle.reports.specs.Mirror.{common_from, touched_in, mirror_rows, comparison, mirror_of, compare_rows, compare_of}
use Rattle.reports.specs.Reading.{page_records}
use Rattle.reports.specs.Room.{log_page, note_page, room_of}
use Rattle.planning.specs.Rehearsal.{access_of, holding, least_used, evicted, brought_in, touched, with_change}
use Rattle.planning.specs.Rehearsal.{changed, step_on, play_from, idle, pages_fit, rehearsal_rows, rehearsal_of}
use Rattle.planning.specs.Rehearsal.{total_of}
use Rattle.planning.specs.RehearsalRun.{changes_of, last_use, victim_row, bring_in, calls_of, play_call, play_calls}
use Rattle.planning.specs.RehearsalRun.{play_events, restarted_site, real_run, backed_up}
use Rattle.upkeep_policy.specs.Upkeep.{note_ahead, log_ahead, first_needed_note, first_needed_log, free_slot, renew}
use Rattle.upkeep_policy.specs.Upkeep.{upkeep_of, advise_rows, advise_of, written_pages, ever_written, in_bounds}
use Rattle.upkeep_policy.specs.Upkeep.{disciplined, upkeep_events}

unfoldable pub opened : Unit {0}
unfolding
    replay_on last_place_from step_call step_cut le bytes_of part splice all_zero starts_with equal_bytes count_of
    restamps AllDone change_of change_fits apply_change checksum_from byte_sum_from with_sum sum_holds sealed_run
    image_sum image_sealed reached log_of appended_state appended_memory begin_done load_done change_done forced_state
    force_done write_outcome backup_done release_done noted_state restamp_done geometry_of valid_counts valid_volume
    empty_volume item store store_heading stored_before step carriable allowed step_log fresh_machine all_allowed run
    log_after empty_index enter_note slot_used valid_image valid_somewhere frame_image record_of record_layout
    record_bytes encode_change apply_record note_of note_layout note_bytes volume_after decided valid_as_noted only_old
    first_from first_old old_left make_rows restart_rows begin_rows load_rows change_rows force_rows write_rows
    backup_rows release_rows note_rows start_carry_rows restamp_rows finish_carry_rows inspect_rows class_of
    chain_record walk_from walk_of replay_chain rebuilt_body repair_of restart_state restart_of make_of inspect_of
    highest count_in first_in rest_zero ends_in durable_count first_held log_index record_fits valid_log gone note_count
    first_note note_index note_follows note_fits valid_notes valid_memory zero_state record_needed log_full note_needed
    notes_full holder_from pending_note_fits frame_fits entry_fits page_fits well_formed tabulate every segment_bytes
    archive_bytes size_of archive_rows archive_of valid_segment records_from valid_from parted_from replay_records
    last_number_in area_from read_rows read_of pages_from cut_into valid_segments examine_rows examine_of forecast_of
    tell_forecast common_from touched_in mirror_rows comparison mirror_of compare_rows compare_of page_records log_page
    note_page room_of access_of holding least_used evicted brought_in touched with_change changed step_on play_from idle
    pages_fit rehearsal_rows rehearsal_of total_of changes_of last_use victim_row bring_in calls_of play_call play_calls
    play_events restarted_site real_run backed_up note_ahead log_ahead first_needed_note first_needed_log free_slot
    renew upkeep_of advise_rows advise_of written_pages ever_written in_bounds disciplined upkeep_events
opened = tt
