-- `end_command` meets its contract: a step for each kind of command. For a raster the area that it needs is measured first, and then carried out.
use borrow.Author.Rules.{rules}
use Rattle.frame.specs.Commands.{ended, ended_in, color_ended_by, selected_in, finished_of}
use Rattle.frame.proofs.CommandLaws.{ended-raster}
use Rattle.frame.proofs.commands.end_command.Goals as goal

pub returns-in-Data : goal.returns-in-Data
unfolding ended ended_in
returns-in-Data c = search rules

pub returns-in-Repeat : goal.returns-in-Repeat
unfolding ended ended_in
returns-in-Repeat c = search rules

pub returns-in-Color : goal.returns-in-Color
unfolding ended ended_in color_ended_by selected_in finished_of
returns-in-Color c = search rules

pub returns-in-Raster : goal.returns-in-Raster
returns-in-Raster c = search (rules, ended-raster)
