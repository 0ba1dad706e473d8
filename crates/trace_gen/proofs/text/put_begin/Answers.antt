use Rattle.trace_gen.proofs.TextLemmas.{asks_buffer, creates_buffer, creates_device, creates_instance, destroys_buffer, destroys_device, destroys_instance, enumerates, is_line_of}
use Rattle.trace_gen.proofs.text.put_begin.Goals as goal

pub returns-in-CreateInstance-clause-text : goal.returns-in-CreateInstance-clause-text
returns-in-CreateInstance-clause-text c = is_line_of c.args.out.now.items c.put.new.out.items _ c.args.call _ c.in-CreateInstance.is creates_instance c.put.ensures.text

pub returns-in-EnumeratePhysicalDevices-clause-text : goal.returns-in-EnumeratePhysicalDevices-clause-text
returns-in-EnumeratePhysicalDevices-clause-text c = is_line_of c.args.out.now.items c.put-in-EnumeratePhysicalDevices.new.out.items _ c.args.call _ c.in-EnumeratePhysicalDevices.is enumerates c.put-in-EnumeratePhysicalDevices.ensures.text

pub returns-in-CreateDevice-clause-text : goal.returns-in-CreateDevice-clause-text
returns-in-CreateDevice-clause-text c = is_line_of c.args.out.now.items c.put-in-CreateDevice.new.out.items _ c.args.call _ c.in-CreateDevice.is creates_device c.put-in-CreateDevice.ensures.text

pub returns-in-CreateBuffer-clause-text : goal.returns-in-CreateBuffer-clause-text
returns-in-CreateBuffer-clause-text c = is_line_of c.args.out.now.items c.put_numbered.new.out.items _ c.args.call _ c.in-CreateBuffer.is (creates_buffer c.in-CreateBuffer.buffer) c.put_numbered.ensures.text

pub returns-in-GetBufferMemoryRequirements-clause-text : goal.returns-in-GetBufferMemoryRequirements-clause-text
returns-in-GetBufferMemoryRequirements-clause-text c = is_line_of c.args.out.now.items c.put_numbered-in-GetBufferMemoryRequirements.new.out.items _ c.args.call _ c.in-GetBufferMemoryRequirements.is (asks_buffer c.in-GetBufferMemoryRequirements.buffer) c.put_numbered-in-GetBufferMemoryRequirements.ensures.text

pub returns-in-DestroyBuffer-clause-text : goal.returns-in-DestroyBuffer-clause-text
returns-in-DestroyBuffer-clause-text c = is_line_of c.args.out.now.items c.put_numbered-in-DestroyBuffer.new.out.items _ c.args.call _ c.in-DestroyBuffer.is (destroys_buffer c.in-DestroyBuffer.buffer) c.put_numbered-in-DestroyBuffer.ensures.text

pub returns-in-DestroyDevice-clause-text : goal.returns-in-DestroyDevice-clause-text
returns-in-DestroyDevice-clause-text c = is_line_of c.args.out.now.items c.put-in-DestroyDevice.new.out.items _ c.args.call _ c.in-DestroyDevice.is destroys_device c.put-in-DestroyDevice.ensures.text

pub returns-in-DestroyInstance-clause-text : goal.returns-in-DestroyInstance-clause-text
returns-in-DestroyInstance-clause-text c = is_line_of c.args.out.now.items c.put-in-DestroyInstance.new.out.items _ c.args.call _ c.in-DestroyInstance.is destroys_instance c.put-in-DestroyInstance.ensures.text
