use Rattle.c_lines.proofs.Lemmas.{refl, reading, is_tell, commanded, map, [], advise, telling, bytes, counts, heat, layout, print, print_window, term_of, bytes_in, line_does}
use Rattle.c_lines.proofs.showing.tell_command.Goals as goal

pub returns-in-Print : goal.returns-in-Print
returns-in-Print g c = line_does bytes_in commanded is_tell c.args.line.now _ (reading print) c.args.view.now c.told_by.new.view c.told_by.result c.in-Print.is refl refl c.told_by.ensures

pub returns-in-PrintWindow : goal.returns-in-PrintWindow
returns-in-PrintWindow g c = line_does bytes_in commanded is_tell c.args.line.now _ (reading (λ content. print_window content c.in-PrintWindow.window)) c.args.view.now c.told_by-in-PrintWindow.new.view c.told_by-in-PrintWindow.result c.in-PrintWindow.is refl refl c.told_by-in-PrintWindow.ensures

pub returns-in-Counts : goal.returns-in-Counts
returns-in-Counts g c = line_does bytes_in commanded is_tell c.args.line.now _ (telling counts) c.args.view.now c.told_by-in-Counts.new.view c.told_by-in-Counts.result c.in-Counts.is refl refl c.told_by-in-Counts.ensures

pub returns-in-Heat : goal.returns-in-Heat
returns-in-Heat g c = line_does bytes_in commanded is_tell c.args.line.now _ (telling heat) c.args.view.now c.told_by-in-Heat.new.view c.told_by-in-Heat.result c.in-Heat.is refl refl c.told_by-in-Heat.ensures

pub returns-in-Layout : goal.returns-in-Layout
returns-in-Layout g c = line_does bytes_in commanded is_tell c.args.line.now _ (telling layout) c.args.view.now c.told_by-in-Layout.new.view c.told_by-in-Layout.result c.in-Layout.is refl refl c.told_by-in-Layout.ensures

pub returns-in-Bytes : goal.returns-in-Bytes
returns-in-Bytes g c = line_does bytes_in commanded is_tell c.args.line.now _ (telling (λ table. bytes table c.in-Bytes.blob)) c.args.view.now c.told_by-in-Bytes.new.view c.told_by-in-Bytes.result c.in-Bytes.is refl refl c.told_by-in-Bytes.ensures

pub returns-in-Advise : goal.returns-in-Advise
returns-in-Advise g c =
    line_does bytes_in commanded is_tell c.args.line.now _ (telling (λ table. advise [] table c.in-Advise.granule c.in-Advise.passes (map term_of c.in-Advise.maps) c.in-Advise.splits)) c.args.view.now c.told_by-in-Advise.new.view c.told_by-in-Advise.result c.in-Advise.is refl refl
    (rw c.new.ensures at c.told_by-in-Advise.ensures)
